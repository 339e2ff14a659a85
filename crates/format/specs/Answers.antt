-- Answers for callers in C, by the results that functions inside the library give: with a refusal come zeros.
use Rattle.std.specs.Prelude.{ℕ, Result, Ok, Err, Option, Some, None, true, false}
use Rattle.format.specs.declared.Reading.{Reading}
use Rattle.format.specs.declared.ReadAnswer.{ReadAnswer}
use Rattle.format.specs.declared.FindAnswer.{FindAnswer}
use Rattle.format.specs.declared.ValueAnswer.{ValueAnswer}
use Rattle.format.specs.declared.CountAnswer.{CountAnswer}
use Rattle.format.specs.declared.NumberAnswer.{NumberAnswer}
use Rattle.format.specs.declared.WriteAnswer.{WriteAnswer}
use Rattle.format.specs.declared.answers.Place.{Place}
use Rattle.format.specs.declared.reason.Refused.{Refused}
use Rattle.format.specs.Refusals.{fine}
use Rattle.format.specs.Reasons.{refusal_of}
use Rattle.format.specs.Calls.{no_reading, no_place, found_at, no_value, no_samples}

abbrev pub reading_answered : Result Reading Refused → ReadAnswer
reading_answered (Ok reading) = record { refusal = fine; reading = reading }
reading_answered (Err refused) = record { refusal = refusal_of refused; reading = no_reading }

-- where bytes were found, if they were
abbrev pub place_found : Option Place → FindAnswer
place_found (Some place) = found_at place.start place.length
place_found None = no_place fine

abbrev pub place_answered : Result (Option Place) Refused → FindAnswer
place_answered (Ok place) = place_found place
place_answered (Err refused) = no_place (refusal_of refused)

-- the length of a value that was copied, if there is one
abbrev pub value_found : Option ℕ → ValueAnswer
value_found (Some length) = record { refusal = fine; found = true; length = length }
value_found None = no_value fine

abbrev pub value_answered : Result (Option ℕ) Refused → ValueAnswer
value_answered (Ok length) = value_found length
value_answered (Err refused) = no_value (refusal_of refused)

abbrev pub count_answered : Result ℕ Refused → CountAnswer
count_answered (Ok count) = record { refusal = fine; count = count }
count_answered (Err refused) = no_samples (refusal_of refused)

abbrev pub number_answered : Result ℕ Refused → NumberAnswer
number_answered (Ok number) = record { refusal = fine; number = number }
number_answered (Err refused) = record { refusal = refusal_of refused; number = 0 }

abbrev pub length_answered : Result ℕ Refused → WriteAnswer
length_answered (Ok length) = record { refusal = fine; length = length }
length_answered (Err refused) = record { refusal = refusal_of refused; length = 0 }
