-- What `read_component` answers; the rest is internal to the library.
use Rattle.std.specs.Prelude.{ℕ, Bool, true, false, ◌&&◌, nat_lt, nat_le, if◌then◌else◌}
use Rattle.std.specs.Prelude.{Option as Maybe}
use Rattle.std.specs.Prelude.{Some, None}
use Rattle.std.proofs.Math.Option.{Option, none, some}
use Rattle.format.specs.declared.Decimal.{Decimal}
use Rattle.format.specs.Decimals.{num, nought, past_number, max_power, signed_of}
use Rattle.read_decimals.specs.declared.parts.Exponent.{Exponent}

-- the decimal of a component
abbrev pub component_told : Option Decimal → Maybe Decimal
component_told none = None
component_told (some d) = Some d

abbrev pub power_of : Bool × ℕ → Exponent
power_of p = record { minus = p.0; size = p.1 }

-- the number n with a sign, times ten to a power: `valued` of digits that write n
abbrev pub valued_number : Bool → ℕ → Bool × ℕ → Option Decimal
valued_number minus n p =
    if nat_lt n past_number && nat_le p.1 max_power then some (num (signed_of minus n) (signed_of p.0 p.1))
    else none
