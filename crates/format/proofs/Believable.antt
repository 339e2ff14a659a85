-- The laws of the definitions, gathered: each is proved in the file of the definitions that it is about.
use Rattle.format.specs.Laws.{Laws}
use Rattle.format.proofs.Lines.{unlines_of_lines, shape_of_lines, lines_unique, start_of_line}
use Rattle.format.proofs.Pairs.{unescape_of_escape, escape_of_unescape, escape_injective, mark_of_pair, judge_of_pair, pair_key_fine, pair_value_fine}
use Rattle.format.proofs.Descriptors.{carried_any}
use Rattle.format.proofs.Header.{header_ends, data_area}
use Rattle.format.proofs.Places.{data_at_end}
use Rattle.format.proofs.Found.{field_found, key_found}
use Rattle.format.proofs.Rules.{accepted_keeps, keeps_accepted, refused_keeps_none, keeps_none_refused}
use Rattle.format.proofs.Named.{names_are_lines, files_some, shares_fit, files_divide}
use Rattle.format.proofs.Strings.{strings_counted, strings_there, string_text, string_quoted}
use Rattle.format.proofs.StringShape.{strings_laid, laid_strings}
use Rattle.format.proofs.Samples.{value_of_bytes, bytes_of_value}
use Rattle.format.proofs.Boundary.{numbers_of_lent, lent_of_numbers, samples_of_lent, lent_of_samples, numbers_of_front, decimal_of_bytes, bytes_of_decimal}
use Rattle.format.proofs.Writer.{number_of_decimal, value_of_decimal, hex_of_text, data_read_back}
use Rattle.format.proofs.AtLimits.{at_limits}

pub laws : Laws
laws =
    record {
      unlines_of_lines = unlines_of_lines;
      shape_of_lines = shape_of_lines;
      lines_unique = lines_unique;
      start_of_line = start_of_line;
      unescape_of_escape = unescape_of_escape;
      escape_of_unescape = escape_of_unescape;
      escape_injective = escape_injective;
      mark_of_pair = mark_of_pair;
      judge_of_pair = judge_of_pair;
      pair_key_fine = pair_key_fine;
      pair_value_fine = pair_value_fine;
      accepted_keeps = accepted_keeps;
      keeps_accepted = keeps_accepted;
      refused_keeps_none = refused_keeps_none;
      keeps_none_refused = keeps_none_refused;
      carried_any = carried_any;
      names_are_lines = names_are_lines;
      files_some = files_some;
      shares_fit = shares_fit;
      files_divide = files_divide;
      header_ends = header_ends;
      data_area = data_area;
      data_at_end = data_at_end;
      field_found = field_found;
      key_found = key_found;
      strings_counted = strings_counted;
      strings_there = strings_there;
      strings_laid = strings_laid;
      laid_strings = laid_strings;
      string_text = string_text;
      string_quoted = string_quoted;
      value_of_bytes = value_of_bytes;
      bytes_of_value = bytes_of_value;
      numbers_of_lent = numbers_of_lent;
      lent_of_numbers = lent_of_numbers;
      samples_of_lent = samples_of_lent;
      lent_of_samples = lent_of_samples;
      decimal_of_bytes = decimal_of_bytes;
      bytes_of_decimal = bytes_of_decimal;
      numbers_of_front = numbers_of_front;
      number_of_decimal = number_of_decimal;
      value_of_decimal = value_of_decimal;
      hex_of_text = hex_of_text;
      data_read_back = data_read_back;
      at_limits = at_limits;
    }
