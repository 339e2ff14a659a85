-- Stamps and steps, their laws, and trials of them.
pub mod Steps
pub mod StepLaws
pub mod StepTrials
