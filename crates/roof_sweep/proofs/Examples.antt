-- The trials of the call for a sweep hold: both sides of each are computed.
-- Assumes nothing.
use mathlib.Core.Path.{refl}
use Rattle.format.specs.Bytes.{every, same, alike, begins_with, is_in, is_any, row_from}
use Rattle.format.specs.Lines.{lines, unlines}
use Rattle.format.specs.Pairs.{mark, escape, unescape_from}
use Rattle.format.specs.Fields.{field_at, descriptor_of, file_names, is_repeated, in_order}
use Rattle.format.specs.Words.{trim_front, trim_end, digits_from, number, parts, not_empty, numbers_in}
use Rattle.format.specs.DataFiles.{data_file_said}
use Rattle.format.specs.Descriptors.{descriptor, since, type_at, may_describe, names_follow, list_empty, has_needed, end_is_raw, product, file_count_of, files_fine}
use Rattle.format.specs.Header.{magic_version, on_pair, on_field, judge, complete, walk, header, value_of}
use Rattle.format.specs.Data.{skip_line, skip_lines, skip_bytes, place_of}
use Rattle.format.specs.Samples.{in_type, from_bytes, to_bytes, value_bytes, sample_value, raw_samples, without_blanks, hex_digit, hex_bytes, hex_samples, skip_blanks, token, after_token, token_value, tokens, samples_of}
use Rattle.format.specs.Calls.{reading_of, key_place}
use Rattle.format.specs.Boundary.{groups, words_of_samples}
use Rattle.format.specs.Trials.{texts}
use Rattle.roof_steps.specs.Steps.{stamp_of, step_of, stamps, wrong_from}
use Rattle.roof_sweep.specs.Sweeps.{offset_said, offset_for, sweep_call}
use Rattle.roof_sweep.specs.SweepTrials.{SweepTrials}

pub trials_hold : SweepTrials
unfolding every same alike begins_with is_in is_any row_from lines unlines mark escape unescape_from field_at descriptor_of file_names is_repeated in_order trim_front trim_end digits_from number parts not_empty numbers_in data_file_said descriptor since type_at may_describe names_follow list_empty has_needed end_is_raw product file_count_of files_fine magic_version on_pair on_field judge complete walk header value_of skip_line skip_lines skip_bytes place_of in_type from_bytes to_bytes value_bytes sample_value raw_samples without_blanks hex_digit hex_bytes hex_samples skip_blanks token after_token token_value tokens samples_of reading_of key_place groups words_of_samples texts stamp_of step_of stamps wrong_from offset_said offset_for sweep_call
trials_hold =
    record {
      steps = (refl, (refl, (refl, (refl, (refl, (refl, (refl, (refl, (refl, (refl, (refl, (refl, (refl, (refl, (refl, (refl, tt))))))))))))))));
      offsets = (refl, (refl, (refl, (refl, (refl, (refl, (refl, (refl, (refl, (refl, (refl, (refl, (refl, (refl, tt))))))))))))));
      kinds = (refl, (refl, (refl, (refl, (refl, (refl, (refl, (refl, tt))))))));
      first = (refl, (refl, (refl, (refl, (refl, (refl, (refl, tt)))))));
      lent = (refl, (refl, (refl, tt)));
    }
