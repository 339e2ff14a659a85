-- Trials of the search for the first wrong step (W4) by computation, as one list under one statement: `StepTrials`.
use Rattle.std.specs.Prelude.{ℕ, List, [], ◌∷◌, pos, negsuc}
use Rattle.std.proofs.Math.Option.{Option, none, some}
use Rattle.format.specs.Trials.{Trial, trial, Hold}
use Rattle.roof_steps.specs.Steps.{stamps, first_wrong}

-- the search in these stamps answers so
abbrev pub finds : ℕ → List ℕ → Option ℕ → Trial
finds largest ts answer = trial (Option ℕ) (first_wrong largest ts) answer

abbrev pub step_trials : List Trial
step_trials =
    -- around the wrap: from the last count to 0 it is one step, from the one before it to 1 it is three
    finds 1 (4_294_967_295 ∷ 0 ∷ []) none
    ∷ finds 3 (4_294_967_294 ∷ 1 ∷ []) none
    ∷ finds 2 (4_294_967_294 ∷ 1 ∷ []) (some 1)
    -- equal stamps are a wrong step
    ∷ finds 1 (5 ∷ 5 ∷ []) (some 1)
    ∷ finds 4_294_967_295 (5 ∷ 5 ∷ []) (some 1)
    -- one row has no step, and neither have no rows
    ∷ finds 1 (5 ∷ []) none
    ∷ finds 1 [] none
    -- the last of five rows
    ∷ finds 2 (1 ∷ 2 ∷ 4 ∷ 5 ∷ 8 ∷ []) (some 4)
    -- a step back is a step almost around
    ∷ finds 2_147_483_647 (10 ∷ 9 ∷ []) (some 1)
    -- exactly the largest step, and one more
    ∷ finds 2_147_483_647 (10 ∷ 2_147_483_657 ∷ []) none
    ∷ finds 2_147_483_647 (10 ∷ 2_147_483_658 ∷ []) (some 1)
    ∷ finds 2_147_483_647 (4_294_967_295 ∷ 2_147_483_646 ∷ []) none
    ∷ finds 2_147_483_647 (4_294_967_295 ∷ 2_147_483_647 ∷ []) (some 1)
    -- the least largest step is 1
    ∷ finds 1 (7 ∷ 8 ∷ 9 ∷ 10 ∷ []) none
    ∷ finds 1 (7 ∷ 8 ∷ 10 ∷ 11 ∷ []) (some 2)
    -- of two wrong steps the first is told
    ∷ finds 1 (7 ∷ 7 ∷ 8 ∷ 8 ∷ []) (some 1)
    ∷ finds 1 (7 ∷ 8 ∷ 8 ∷ 11 ∷ []) (some 2)
    -- the stamps of rows of 3 samples; of a sample past 32 bits the low ones count, also of a negative one
    ∷ trial (List ℕ) (stamps 3 3 (pos 7 ∷ pos 1 ∷ pos 1 ∷ pos 8 ∷ pos 1 ∷ pos 1 ∷ pos 9 ∷ pos 1 ∷ pos 1 ∷ [])) (7 ∷ 8 ∷ 9 ∷ [])
    ∷ trial (List ℕ) (stamps 2 3 (pos 4_294_967_295 ∷ pos 1 ∷ pos 2 ∷ pos 4_294_967_296 ∷ pos 3 ∷ pos 4 ∷ [])) (4_294_967_295 ∷ 0 ∷ [])
    ∷ trial (List ℕ) (stamps 2 1 (negsuc 0 ∷ pos 0 ∷ [])) (4_294_967_295 ∷ 0 ∷ [])
    ∷ trial (List ℕ) (stamps 0 3 []) []
    -- a wrong step between the stamps of such rows
    ∷ finds 1 (stamps 3 3 (pos 7 ∷ pos 1 ∷ pos 1 ∷ pos 8 ∷ pos 1 ∷ pos 1 ∷ pos 10 ∷ pos 1 ∷ pos 1 ∷ [])) (some 2)
    ∷ []

-- all of them
abbrev pub StepTrials : Type 0
StepTrials = Hold step_trials
