-- Trials beside the starred ones, as one statement: `FurtherTrials`. They show rules that the starred trials do not: which headers are
-- accepted, what the look-ups find, what is listed, which bytes are written, and the bytes of numbers that callers in C lend; the byte skip of -1 (W1); decimals,
-- vectors, spaces and headers with them (W2); data in several files (W5); and axis records (W6).
use Rattle.format.specs.AcceptanceTrials.{AcceptanceTrials}
use Rattle.format.specs.FindTrials.{FindTrials}
use Rattle.format.specs.ListingTrials.{ListingTrials}
use Rattle.format.specs.WriteTrials.{WriteTrials}
use Rattle.format.specs.EntryTrials.{EntryTrials}
use Rattle.format.specs.SkipTrials.{SkipTrials}
use Rattle.format.specs.OrientationTrials.{OrientationTrials}
use Rattle.format.specs.HeaderTrials.{HeaderTrials}
use Rattle.format.specs.ListTrials.{ListTrials}
use Rattle.format.specs.FilesTrials.{FilesTrials}
use Rattle.format.specs.AxisTrials.{AxisTrials}

pub record FurtherTrials : Type 0 where
  pub accepted : AcceptanceTrials
  pub found : FindTrials
  pub listed : ListingTrials
  pub written : WriteTrials
  pub crossing : EntryTrials
  pub skipped : SkipTrials
  pub oriented : OrientationTrials
  pub posed : HeaderTrials
  pub listing : ListTrials
  pub axial : AxisTrials
  pub filed : FilesTrials
