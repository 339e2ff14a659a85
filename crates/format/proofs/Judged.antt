-- A line is judged to be an item exactly when it keeps the rules of that item (specs/Rules.antt): `keeps_judge`, `judge_keeps`.
-- Where no names follow, its text decides (`judge_by_text`); where they do, it is a name or closes the header (`judge_named`).
-- Assumes nothing.
use Rattle.std.specs.Prelude.{if◌then◌else◌}
use mathlib.Core.Path.{◌≡◌, refl, sym, ap, subst}
use Prim.Native.Nat.{ℕ, ◌≤◌}
use mathlib.Core.Bool.{Bool, true, false, not, ◌&&◌, ◌||◌, false≢true}
use mathlib.Core.List.{List, [], ◌∷◌}
use mathlib.Core.Option.{Option, none, some}
use lib.Dec.{eqb, ltb}
use borrow.Author.Tests.{eqb-true, not-true, ltb-false, le-ltb}
use Rattle.format.specs.Bytes.{every, is_empty}
use Rattle.format.specs.Refusals.{bad_byte, not_in_version, repeated_field, out_of_order, bad_descriptor}
use Rattle.format.specs.Pairs.{plain, Marked, unmarked, field_mark, pair_mark, mark, LineKind, empty_line, comment_line, other_line, kind_of, is_other, unescape}
use Rattle.format.specs.Fields.{field_named, pairs_since, Given, given, named, descriptor_of, is_given, other_field, is_repeated, needs_dimension, needs_space, in_order, dimension, space, space_dimension}
use Rattle.format.specs.Descriptors.{descriptor, since, may_describe, dimension_of, space_size_of, names_follow}
use Rattle.format.specs.Header.{Item, magic, comment, field, pair, file_name, closing, pair_of, given_of, closes, Judged, wrong, right, unescaped, on_pair, on_field, on_mark, on_kind, on_name, judge, with_field, after_item}
use Rattle.format.specs.Rules.{OtherLine, FieldLine, NameLine, Keeps}
use Rattle.format.proofs.Bytes.{and_left, and_right, neither, or-false}
use Rattle.format.proofs.Marks.{first_of_field, first_of_pair, field_of_first, pair_of_first, other_kind, mark_of_kind, empty_kind, is_other_lem, is_comment_lem, other_line_lem, comment_line_lem}

-- ---- an item by its views

pub is_pair : (i : Item) {p : List ℕ × List ℕ} → pair_of i ≡ some p → i ≡ pair p.0 p.1
is_pair (magic n) e = cc
is_pair comment e = cc
is_pair (field f d) e = cc
is_pair (pair k v) e = cc
is_pair (file_name t) e = cc
is_pair closing e = cc

pub is_field : (i : Item) {f : ℕ} {d : List ℕ} → given_of i ≡ some (given f d) → i ≡ field f d
is_field (magic n) e = cc
is_field comment e = cc
is_field (field f d) e = cc
is_field (pair k v) e = cc
is_field (file_name t) e = cc
is_field closing e = cc

pub is_name : (i : Item) {t : List ℕ} → given_of i ≡ some (named t) → i ≡ file_name t
is_name (magic n) e = cc
is_name comment e = cc
is_name (field f d) e = cc
is_name (pair k v) e = cc
is_name (file_name t) e = cc
is_name closing e = cc

pub is_closing : (i : Item) → closes i ≡ true → i ≡ closing
is_closing (magic n) c = absurd (false≢true c)
is_closing comment c = absurd (false≢true c)
is_closing (field f d) c = absurd (false≢true c)
is_closing (pair k v) c = absurd (false≢true c)
is_closing (file_name t) c = absurd (false≢true c)
is_closing closing c = refl

-- ---- the order of fields

-- a test that need not be met, or is met
unless : (a b : Bool) → (not a || b) ≡ true → a ≡ true → b ≡ true
unless true b h e = h
unless false b h e = absurd (false≢true e)

unless_is : (a b : Bool) → (a ≡ true → b ≡ true) → (not a || b) ≡ true
unless_is true b h = h refl
unless_is false b h = refl

in_order_lem : (f : ℕ) (gs : List Given) → (needs_dimension f ≡ true → is_given dimension gs ≡ true)
    → (needs_space f ≡ true → (is_given space gs || is_given space_dimension gs) ≡ true) → in_order f gs ≡ true
unfolding in_order
in_order_lem f gs a b =
    rw (unless_is (needs_dimension f) (is_given dimension gs) a, unless_is (needs_space f) (is_given space gs || is_given space_dimension gs) b)

module _ (version : ℕ) (gs : List Given) where
  -- ---- it keeps the rules: judged

  judge_other : (t : List ℕ) → OtherLine gs t → judge version gs t ≡ on_mark version gs (mark t)
  unfolding judge
  judge_other t o = rw (o.no_names, other_kind t (is_other_lem t o), o.all_plain)

  pub not_repeated : (f : ℕ) → is_given f gs ≡ false → is_given (other_field f) gs ≡ false → is_repeated f gs ≡ false
  unfolding is_repeated
  not_repeated f = neither (is_given f gs) (is_given (other_field f) gs)

  on_field_is : (f : ℕ) (rest : List ℕ) → since f (descriptor f rest) ≤ version → is_repeated f gs ≡ false → in_order f gs ≡ true
      → may_describe (dimension_of gs) (space_size_of gs) f (descriptor f rest) ≡ true → on_field version gs (some f) rest ≡ right (field f (descriptor f rest))
  unfolding on_field
  on_field_is f rest s n o d = rw (le-ltb version (since f (descriptor f rest)) s, n, o, d)

  pub on_pair_is : (key value k v : List ℕ) → is_empty key ≡ false → pairs_since ≤ version → unescape key ≡ some k → unescape value ≡ some v
      → on_pair version key value ≡ right (pair k v)
  unfolding on_pair
  on_pair_is [] value k v h n i j = absurd (false≢true (sym h))
  on_pair_is (b ∷ key) value k v h n i j = rw (le-ltb version pairs_since n, i, j)

  name_is : (t : List ℕ) → is_empty t ≡ false → every plain t ≡ true → on_name t ≡ right (file_name t)
  name_is [] h p = absurd (false≢true (sym h))
  name_is (b ∷ t) h p = rw p

  pub keeps_judge : (t : List ℕ) (i : Item) → Keeps version gs t i → judge version gs t ≡ right i
  unfolding judge
  keeps_judge t (magic n) k = absurd k
  keeps_judge t comment k = rw (k.0, is_comment_lem t k.1)
  keeps_judge t (field f d) k =
      rw (judge_other t k.other, field_of_first k.marked, k.named, k.descriptor_is)
      (on_field_is f k.rest (rw k.descriptor_is at k.in_version) (not_repeated f k.new k.other_new) (in_order_lem f gs k.after_dimension k.after_space) (rw k.descriptor_is at k.described))
  keeps_judge t (pair x v) k =
      rw (judge_other t k.other, pair_of_first k.marked) (on_pair_is k.key k.value x v k.key_filled k.since k.key_is k.value_is)
  keeps_judge t (file_name n) k = rw (k.follows, k.whole) (name_is t k.filled k.all_plain)
  keeps_judge t closing k = rw k (either (names_follow gs))
    where
      either : (x : Bool) → (if x then right closing else right closing) ≡ right closing
      either true = refl
      either false = refl

  -- ---- judged: it keeps the rules

  -- of a line that is judged wrong nothing is said
  abbrev KeepsRight : List ℕ → Judged → Type 0
  KeepsRight t (wrong w) = Unit {0}
  KeepsRight t (right i) = Keeps version gs t i

  field_keeps : (t name rest : List ℕ) → OtherLine gs t → mark t ≡ field_mark name rest
      → (o : Option ℕ) → field_named name ≡ o → KeepsRight t (on_field version gs o rest)
  unfolding on_field in_order is_repeated
  field_keeps t name rest other m none e = tt
  field_keeps t name rest other m (some f) e =
      go (ltb version (since f (descriptor f rest))) refl (is_repeated f gs) refl (in_order f gs) refl (may_describe (dimension_of gs) (space_size_of gs) f (descriptor f rest)) refl
    where
      axes : Bool
      axes = not (needs_dimension f) || is_given dimension gs

      spaces : Bool
      spaces = not (needs_space f) || (is_given space gs || is_given space_dimension gs)

      go : (a : Bool) → ltb version (since f (descriptor f rest)) ≡ a → (b : Bool) → is_repeated f gs ≡ b → (c : Bool) → in_order f gs ≡ c
          → (d : Bool) → may_describe (dimension_of gs) (space_size_of gs) f (descriptor f rest) ≡ d
          → KeepsRight t
          (if a then wrong not_in_version else if b then wrong repeated_field else if not c then wrong out_of_order
          else if not d then wrong bad_descriptor else right (field f (descriptor f rest)))
      go true ha b hb c hc d hd = tt
      go false ha true hb c hc d hd = tt
      go false ha false hb false hc d hd = tt
      go false ha false hb true hc false hd = tt
      go false ha false hb true hc true hd =
          record {
            other = other;
            name = name;
            rest = rest;
            marked = first_of_field t m;
            named = e;
            in_version = ltb-false version (since f (descriptor f rest)) ha;
            new = (or-false (is_given f gs) (is_given (other_field f) gs) hb).0;
            other_new = (or-false (is_given f gs) (is_given (other_field f) gs) hb).1;
            after_dimension = unless (needs_dimension f) (is_given dimension gs) (and_left axes spaces hc);
            after_space = unless (needs_space f) (is_given space gs || is_given space_dimension gs) (and_right axes spaces hc);
            descriptor_is = refl;
            described = hd;
          }

  pair_keeps : (t k v : List ℕ) → OtherLine gs t → mark t ≡ pair_mark k v → KeepsRight t (on_pair version k v)
  unfolding on_pair
  pair_keeps t [] v other m = tt
  pair_keeps t (b ∷ k) v other m = go (ltb version pairs_since) refl (unescape (b ∷ k)) refl (unescape v) refl
    where
      go : (a : Bool) → ltb version pairs_since ≡ a → (x : Option (List ℕ)) → unescape (b ∷ k) ≡ x → (y : Option (List ℕ)) → unescape v ≡ y
          → KeepsRight t (if a then wrong not_in_version else unescaped x y)
      go true e x hx y hy = tt
      go false e none hx y hy = tt
      go false e (some k') hx none hy = tt
      go false e (some k') hx (some v') hy =
          record {
            other = other;
            key = b ∷ k;
            value = v;
            marked = first_of_pair t m;
            key_filled = refl;
            since = ltb-false version pairs_since e;
            key_is = hx;
            value_is = hy;
          }

  name_keeps : (t : List ℕ) → names_follow gs ≡ true → KeepsRight t (on_name t)
  name_keeps [] n = refl
  name_keeps (b ∷ t) n = go (every plain (b ∷ t)) refl
    where
      go : (x : Bool) → every plain (b ∷ t) ≡ x → KeepsRight (b ∷ t) (if not x then wrong bad_byte else right (file_name (b ∷ t)))
      go false e = tt
      go true e = record { follows = n; filled = refl; all_plain = e; whole = refl }

  keeps_right : (t : List ℕ) → KeepsRight t (judge version gs t)
  unfolding judge
  keeps_right t = by (names_follow gs) refl
    where
      marked : names_follow gs ≡ false → (m : Marked) → kind_of t ≡ other_line m → every plain t ≡ true → KeepsRight t (on_mark version gs m)
      marked n unmarked e p = tt
      marked n (field_mark name rest) e p =
          field_keeps t name rest (other_line_lem t n (ap is_other e) p) (mark_of_kind t e) (field_named name) refl
      marked n (pair_mark k v) e p = pair_keeps t k v (other_line_lem t n (ap is_other e) p) (mark_of_kind t e)

      other : names_follow gs ≡ false → (m : Marked) → kind_of t ≡ other_line m → (x : Bool) → every plain t ≡ x → KeepsRight t (if not x then wrong bad_byte else on_mark version gs m)
      other n m e false p = tt
      other n m e true p = marked n m e p

      go : names_follow gs ≡ false → (k : LineKind) → kind_of t ≡ k → KeepsRight t (on_kind version gs t k)
      go n empty_line e = empty_kind t e
      go n comment_line e = (n, comment_line_lem t e)
      go n (other_line m) e = other n m e (every plain t) refl

      by : (x : Bool) → names_follow gs ≡ x → KeepsRight t (if x then on_name t else on_kind version gs t (kind_of t))
      by true n = name_keeps t n
      by false n = go n (kind_of t) refl

  pub judge_keeps : (t : List ℕ) {i : Item} → judge version gs t ≡ right i → Keeps version gs t i
  judge_keeps t e = subst (KeepsRight t) e (keeps_right t)

  -- what holds of what is given holds of it once a line is read, where it holds of one field more and of one name more
  pub after_cases : (t : List ℕ) {i : Item} (P : List Given → Type 0) → judge version gs t ≡ right i → P gs
      → ((f : ℕ) (d : List ℕ) → FieldLine version gs t f d → P (given f d ∷ gs)) → ((n : List ℕ) → NameLine gs t n → P (named n ∷ gs)) → P (after_item i gs)
  after_cases t {i} P j p more name = go (given_of i) refl
    where
      go : (o : Option Given) → given_of i ≡ o → P (with_field o gs)
      go none e = p
      go (some (given f d)) e = more f d (subst (Keeps version gs t) (is_field i e) (judge_keeps t j))
      go (some (named n)) e = name n (subst (Keeps version gs t) (is_name i e) (judge_keeps t j))

  -- ---- where no names follow, a line is judged by its text

  pub judge_by_text : (t : List ℕ) → names_follow gs ≡ false → judge version gs t ≡ on_kind version gs t (kind_of t)
  unfolding judge
  judge_by_text t n = rw n

  -- where names follow, a line closes the header or is a name
  pub judge_named : (t : List ℕ) → names_follow gs ≡ true → judge version gs t ≡ on_name t
  unfolding judge
  judge_named t n = rw n

-- names follow once LIST is given, whatever names are
pub names_still : (n : List ℕ) (gs : List Given) → names_follow (named n ∷ gs) ≡ names_follow gs
unfolding names_follow descriptor_of
names_still n gs = refl

-- before the first field none do
pub no_names : names_follow [] ≡ false
unfolding names_follow descriptor_of
no_names = refl
