-- The starred trials and the further ones hold: both sides of each are computed.
use mathlib.Core.Path.{refl}
use mathlib.Core.List.{flat_map}
use Rattle.format.specs.Bytes.{every, same, alike, begins_with, is_in, is_any, row_from, each}
use Rattle.format.specs.Lines.{lines, unlines, starts}
use Rattle.format.specs.Pairs.{mark, escape, unescape_from}
use Rattle.format.specs.Fields.{field_at, descriptor_of, file_names, is_repeated, in_order}
use Rattle.format.specs.Words.{trim_front, trim_end, digits_from, number, parts, not_empty, numbers_in}
use Rattle.format.specs.Descriptors.{descriptor, since, type_at, may_describe, names_follow, list_empty, has_needed, end_is_raw, product, file_count_of, files_fine}
use Rattle.format.specs.DataFiles.{pattern_of, data_file_said}
use Rattle.format.specs.Kinds.{centring_named, kind_named}
use Rattle.format.specs.Strings.{strings_from, strings_said}
use Rattle.format.specs.AxisRecords.{centrings_of, kinds_of, strings_of, string_place, axis_of, records_in, axes_in, axis_bytes, axes_bytes, axes_listed}
use Rattle.format.specs.Decimals.{digits_of, after_digits, numeral_value, component}
use Rattle.format.specs.Spaces.{space_at}
use Rattle.format.specs.DataFiles.{pattern_of, data_file_said}
use Rattle.format.specs.FileNames.{name_said}
use Rattle.format.specs.Vectors.{parts_outside, vector_words, closed, comma_parts, all_said, said_by, vector_said, direction_said}
use Rattle.format.specs.HeaderWriter.{component_text, joined, vector_text, orientation_lines, oriented_bytes, until_none, in_version, write_header}
use Rattle.format.specs.Orientation.{origin_of, directions_of, frame_of}
use Rattle.format.specs.Columns.{eight}
use Rattle.format.specs.EntryPoints.{columns_lent, write_header_entry}
use Rattle.format.specs.Header.{magic_version, on_pair, on_field, judge, complete, walk, header, value_of, before_names}
use Rattle.format.specs.Data.{skip_line, skip_lines, skip_bytes, last_bytes, place_of}
use Rattle.format.specs.Samples.{in_type, to_bytes, value_bytes, from_bytes, sample_value, raw_samples, skip_blanks, token, after_token, token_value, tokens, samples_of}
use Rattle.format.specs.Axes.{inside, sample_number}
use Rattle.format.specs.Writer.{decimal_from, spaced, hex_text, raw_data, text_data, data_bytes, header_lines, file_bytes, all_in_type, writable, write_refusal}
use Rattle.format.specs.Settings.{key_fine, value_fine, pair_text, replaced, new_lines, refilled, table_fine, store, set_read, set_key}
use Rattle.format.specs.Calls.{no_reading, reading_of, with_table, key_place, field_place}
use Rattle.format.specs.Listing.{shown_refusal, shown_keys, shown_reading, listing}
use Rattle.format.specs.Boundary.{groups, number_bytes, words_of_samples, decimal_bytes, decimal_of, decimals_bytes}
use Rattle.format.specs.Files.{file_name_of}
use Rattle.format.specs.ListTrials.{comments}
use Rattle.format.specs.Trials.{texts, StarredTrials}
use Rattle.format.specs.EntryTrials.{entries}
use Rattle.format.specs.FilesTrials.{up_to}
use Rattle.format.specs.FurtherTrials.{FurtherTrials}

trials : StarredTrials × FurtherTrials
unfolding every same alike begins_with is_in is_any row_from lines unlines starts mark escape unescape_from field_at descriptor_of is_repeated in_order trim_front trim_end descriptor digits_from number parts not_empty numbers_in type_at may_describe has_needed end_is_raw product names_follow list_empty since files_fine file_count_of file_names data_file_said pattern_of before_names file_name_of comments magic_version on_pair on_field judge complete walk header value_of skip_line skip_lines skip_bytes last_bytes place_of in_type from_bytes sample_value raw_samples skip_blanks token after_token token_value tokens samples_of inside sample_number key_fine value_fine pair_text replaced new_lines refilled table_fine store set_read set_key no_reading reading_of with_table texts key_place field_place decimal_from spaced shown_refusal shown_keys shown_reading listing hex_text raw_data text_data data_bytes header_lines file_bytes all_in_type writable write_refusal groups number_bytes words_of_samples entries to_bytes value_bytes digits_of after_digits numeral_value component space_at parts_outside vector_words closed comma_parts all_said said_by vector_said direction_said component_text joined vector_text orientation_lines oriented_bytes decimal_bytes decimal_of decimals_bytes until_none in_version write_header origin_of directions_of frame_of eight columns_lent write_header_entry flat_map name_said up_to each centring_named kind_named strings_from strings_said centrings_of kinds_of strings_of string_place axis_of records_in axes_in axis_bytes axes_bytes axes_listed
trials = (
  (refl, (refl, (refl, (refl, (refl, (refl, (refl, (refl, (refl, (refl, (refl, (refl, (refl, (refl, (refl, (refl, (refl, (refl, (refl, (refl, (refl, (refl, (refl, (refl, (refl, tt))))))))))))))))))))))))),
  record {
    accepted = (refl, (refl, (refl, (refl, (refl, (refl, (refl, (refl, (refl, (refl, (refl, (refl, (refl, (refl, (refl, (refl, (refl, (refl, (refl, (refl, (refl, (refl, (refl, tt)))))))))))))))))))))));
    found = (refl, (refl, (refl, (refl, (refl, (refl, (refl, (refl, (refl, (refl, (refl, (refl, (refl, (refl, (refl, (refl, tt))))))))))))))));
    listed = (refl, (refl, (refl, (refl, (refl, (refl, (refl, tt)))))));
    written = (refl, (refl, (refl, (refl, (refl, (refl, (refl, (refl, (refl, tt)))))))));
    crossing = (refl, (refl, (refl, (refl, (refl, (refl, (refl, (refl, (refl, (refl, tt))))))))));
    skipped = (refl, (refl, (refl, (refl, (refl, (refl, (refl, (refl, (refl, (refl, (refl, (refl, (refl, (refl, (refl, (refl, (refl, (refl, (refl, (refl, (refl, (refl, (refl, (refl, (refl, (refl, (refl, (refl, (refl, (refl, (refl, (refl, (refl, (refl, (refl, (refl, tt))))))))))))))))))))))))))))))))))));
    oriented = record {
      in_components = (refl, (refl, (refl, (refl, (refl, (refl, (refl, (refl, (refl, (refl, (refl, (refl, (refl, (refl, (refl, (refl, (refl, (refl, (refl, (refl, (refl, (refl, (refl, (refl, (refl, (refl, (refl, (refl, (refl, (refl, (refl, (refl, (refl, (refl, (refl, (refl, (refl, (refl, (refl, (refl, (refl, (refl, (refl, (refl, (refl, (refl, (refl, (refl, (refl, tt)))))))))))))))))))))))))))))))))))))))))))))))));
      in_vectors = (refl, (refl, (refl, (refl, (refl, (refl, (refl, (refl, (refl, (refl, (refl, (refl, (refl, (refl, (refl, (refl, (refl, (refl, (refl, (refl, (refl, (refl, (refl, (refl, (refl, (refl, (refl, (refl, tt))))))))))))))))))))))))))));
      in_spaces = (refl, (refl, (refl, (refl, (refl, (refl, (refl, (refl, (refl, (refl, (refl, (refl, (refl, (refl, (refl, tt)))))))))))))));
      in_headers = (refl, (refl, tt));
    };
    posed = record {
      in_accepting = (refl, (refl, (refl, (refl, (refl, (refl, (refl, (refl, (refl, (refl, (refl, (refl, (refl, (refl, (refl, (refl, (refl, (refl, (refl, (refl, (refl, (refl, (refl, (refl, (refl, (refl, (refl, (refl, tt))))))))))))))))))))))))))));
      in_saying = (refl, (refl, (refl, (refl, (refl, (refl, (refl, (refl, (refl, (refl, (refl, (refl, (refl, (refl, (refl, (refl, (refl, (refl, (refl, (refl, tt))))))))))))))))))));
      in_writing = (refl, (refl, (refl, (refl, (refl, (refl, (refl, (refl, (refl, (refl, (refl, (refl, (refl, (refl, (refl, (refl, tt))))))))))))))));
    };
    listing = record {
      in_accepting = (refl, (refl, (refl, (refl, (refl, (refl, (refl, (refl, (refl, (refl, (refl, (refl, (refl, (refl, (refl, (refl, (refl, (refl, (refl, (refl, (refl, (refl, (refl, (refl, (refl, (refl, (refl, (refl, (refl, (refl, (refl, (refl, (refl, (refl, (refl, tt)))))))))))))))))))))))))))))))))));
      in_calls = (refl, (refl, (refl, (refl, (refl, (refl, (refl, (refl, (refl, (refl, (refl, (refl, (refl, (refl, (refl, (refl, (refl, (refl, (refl, (refl, (refl, (refl, (refl, (refl, (refl, (refl, (refl, (refl, (refl, (refl, (refl, (refl, (refl, (refl, (refl, (refl, (refl, (refl, (refl, (refl, tt))))))))))))))))))))))))))))))))))))))));
    };
    axial = record {
      in_strings = (refl, (refl, (refl, (refl, (refl, (refl, (refl, (refl, (refl, (refl, (refl, (refl, (refl, (refl, (refl, (refl, (refl, (refl, (refl, (refl, (refl, (refl, tt))))))))))))))))))))));
      in_words = (refl, (refl, (refl, (refl, (refl, (refl, (refl, (refl, (refl, (refl, (refl, (refl, (refl, (refl, (refl, (refl, tt))))))))))))))));
      in_headers = (refl, (refl, (refl, (refl, (refl, (refl, (refl, (refl, tt))))))));
      in_places = (refl, (refl, (refl, (refl, (refl, tt)))));
      in_records = (refl, (refl, (refl, (refl, (refl, (refl, (refl, (refl, tt))))))));
    };
    filed = record {
      in_forms = (refl, (refl, (refl, (refl, (refl, (refl, (refl, (refl, (refl, (refl, (refl, (refl, (refl, (refl, (refl, (refl, (refl, (refl, (refl, (refl, (refl, (refl, (refl, (refl, (refl, (refl, (refl, (refl, (refl, (refl, (refl, (refl, (refl, (refl, (refl, tt)))))))))))))))))))))))))))))))))));
      in_patterns = (refl, (refl, (refl, (refl, (refl, (refl, (refl, (refl, (refl, (refl, (refl, (refl, (refl, (refl, (refl, (refl, (refl, (refl, (refl, (refl, (refl, (refl, (refl, (refl, (refl, (refl, tt))))))))))))))))))))))))));
      in_numbers = (refl, (refl, (refl, (refl, (refl, (refl, (refl, (refl, (refl, (refl, (refl, (refl, (refl, (refl, (refl, (refl, (refl, (refl, (refl, (refl, (refl, (refl, (refl, (refl, (refl, (refl, (refl, (refl, (refl, (refl, (refl, (refl, (refl, (refl, tt))))))))))))))))))))))))))))))))));
      in_names = (refl, (refl, (refl, (refl, (refl, (refl, (refl, (refl, (refl, (refl, (refl, (refl, (refl, (refl, (refl, (refl, tt))))))))))))))));
      in_counts = (refl, (refl, (refl, (refl, (refl, tt)))));
      in_shares = (refl, (refl, (refl, (refl, (refl, tt)))));
    };
  },
)

pub starred_trials : StarredTrials
starred_trials = trials.0

pub further_trials : FurtherTrials
further_trials = trials.1
