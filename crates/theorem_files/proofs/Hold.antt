-- Data in several files: each part of the statement.
-- Assumes nothing.
use native.Mathlib.Omega.{arith}
use Rattle.format.specs.DataFiles.{pattern}
use Rattle.theorem_files.specs.Files.{FilesHold}
use Rattle.theorem_files.proofs.Shares.{shares_tile}
use Rattle.theorem_files.proofs.Patterns.{pattern_word, pattern_taken}
use Rattle.theorem_files.proofs.Numbers.{numbers_run, taken}
use Rattle.theorem_files.proofs.Headers.{header_files}
use Rattle.theorem_files.proofs.Names.{number_long, number_read, pattern_files}

-- what is stated as numbers is asked for as numbers, so that a false statement fails with them
pub all_hold : FilesHold
all_hold =
    record {
      shares = λ samples files w h d i. shares_tile samples files w (omega arith) (omega (arith, d)) (omega arith);
      patterns = λ w a z n s e. pattern_word w (pattern a z n s) e;
      patterns_taken = pattern_taken;
      numbers = numbers_run;
      numbers_taken = λ first last step f l size falls p h q i s. taken first last step falls size s f l p h q i;
      number_long = λ zeros width n. omega (arith, number_long width n zeros);
      number_read = λ zeros width n. number_read width n zeros;
      headers = header_files;
      pattern_files = pattern_files;
    }
