pub mod SaidLaws
pub mod StoreLaws
pub mod PlaceLaws
pub mod CallLaws
