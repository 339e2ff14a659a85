-- Laws of several tokens: a walk over n of them, and a list or lent bytes that are filled with their values.
-- Assumes nothing.
use Rattle.std.specs.Prelude.{if◌then◌else◌}
use Prim.Native.Nat.{ℕ, zero, suc, ◌+◌, ◌*◌, ◌-◌, ◌/◌, ◌≤◌, ◌<◌}
use native.Mathlib.Nat.{zero-add, suc-add, zero-mul, mul-zero, suc-mul}
use native.Mathlib.Omega.{arith}
use mathlib.Core.Path.{◌≡◌, refl, sym, ap, ◌∙◌, subst}
use mathlib.Core.Bool.{Bool, true, false}
use mathlib.Core.List.{List, [], ◌∷◌, ◌++◌}
use mathlib.Core.Option.{Option, none, some}
use lib.Dec.{ltb}
use lib.IntN.{ℤ, pos, negsuc}
use lib.ListN.{set, length, drop, length-drop, length-set}
use lib.Seq.{drop-drop, sets, sets-eq, set_out}
use mir.Syntax.{w64}
use mir.Val.{SFits, to_z, of_z}
use mir.Facts.{to_z-of_z}
use borrow.Author.Tests.{ltb-true, ltb-false}
use Rattle.format.specs.Bytes.{over}
use Rattle.format.specs.Descriptors.{NumberKind, little}
use Rattle.format.specs.declared.reason.Reason.{Reason}
use Rattle.format.specs.Reasons.{reason_number}
use Rattle.format.specs.Refusals.{bad_sample, data_ends_early}
use Rattle.format.specs.Samples.{Decoded, stopped, with_sample, blank, skip_blanks, token, after_token, token_value, lowest, highest, in_type, text_sample, tokens, text_samples, value_bytes}
use Rattle.std.specs.Prelude.{Option as Maybe}
use Rattle.std.specs.Prelude.{Some, None}
use Rattle.data_text.specs.declared.reader.Sample.{Sample}
use Rattle.data_text.specs.Tokens.{in_range, ranged, push, tokens_in, samples_in, sample, token_of, token_at, left, last_of, Walked, Skipped, Divides}
use Rattle.data_text.proofs.TokenLaws.{front, back}

-- every reason has a number
pub not_fine : (r : Reason) → reason_number r ≡ 0 → ⊥
not_fine r e = grind arith

-- ---- where a token ends

token_within : (t : List ℕ) → length (token t) ≤ length t
unfolding token
token_within [] = omega arith
token_within (b ∷ t) = go (blank b) refl (token_within t)
  where
    go : (x : Bool) → blank b ≡ x → length (token t) ≤ length t → length (token (b ∷ t)) ≤ length (b ∷ t)
    go true q ih = rw q (omega arith)
    go false q ih = rw q (omega arith)

after_drop : (t : List ℕ) → after_token t ≡ drop (length (token t)) t
unfolding token after_token
after_drop [] = refl
after_drop (b ∷ t) = go (blank b) refl (after_drop t)
  where
    go : (x : Bool) → blank b ≡ x → after_token t ≡ drop (length (token t)) t
        → after_token (b ∷ t) ≡ drop (length (token (b ∷ t))) (b ∷ t)
    go true q ih = rw q refl
    go false q ih = rw q ih

-- the value and the end of a token that was read
abbrev value_in : Maybe Sample → ℤ
value_in None = pos 0
value_in (Some x) = x.value

abbrev end_in : Maybe Sample → ℕ
end_in None = 0
end_in (Some x) = x.end

sampled : (o : Option ℤ) (e : ℕ) (z : ℤ) (k : ℕ) → token_of o e ≡ sample z k → (o ≡ some z) × (e ≡ k)
sampled none e z k q = absurd (let x : ◌≡◌ {A = ℕ} 0 1 = cc in omega arith)
sampled (some y) e z k q = (ap (λ (w : Maybe Sample). some (value_in w)) q, ap end_in q)

unsampled : (o : Option ℤ) (e : ℕ) → token_of o e ≡ None → o ≡ none
unsampled none e q = refl
unsampled (some y) e q = absurd (let x : ◌≡◌ {A = ℕ} 0 1 = cc in omega arith)

-- a sample has a byte
some_long : (low high : ℕ) (t : List ℕ) (z : ℤ) → ranged low high (token_value t) ≡ some z → 0 < length t
unfolding ranged token_value
some_long low high [] z q = absurd (let x : ◌≡◌ {A = ℕ} 0 1 = cc in omega arith)
some_long low high (b ∷ t) z q = omega arith

-- ---- one token of n

-- the token from `at` to e has the value z: what is left of n tokens
pub record Got (low high n : ℕ) (s : List ℕ) (at : ℕ) (z : ℤ) (e : ℕ) : Type 0 where
  pub ahead : at < e
  pub within : e ≤ length s
  pub more : tokens_in low high n (drop at s) ≡ with_sample z (samples_in low high (n - 1) (drop e s))
  pub past : left n (drop at s) ≡ left (n - 1) (skip_blanks (drop e s))

module _ (low high : ℕ) where
  pub tokens_none : (n : ℕ) (t : List ℕ) → n ≡ 0 → tokens_in low high n t ≡ stopped 0
  unfolding tokens_in
  tokens_none n t q = rw q refl

  tokens_end : (n : ℕ) → (n ≡ 0 → ⊥) → tokens_in low high n [] ≡ stopped data_ends_early
  unfolding tokens_in
  tokens_end zero z = absurd (z refl)
  tokens_end (suc n) z = refl

  tokens_cons : (n b : ℕ) (t : List ℕ) → (n ≡ 0 → ⊥)
      → tokens_in low high n (b ∷ t)
      ≡ push (ranged low high (token_value (token (b ∷ t)))) (samples_in low high (n - 1) (after_token (b ∷ t)))
  unfolding tokens_in
  tokens_cons zero b t z = absurd (z refl)
  tokens_cons (suc n) b t z =
      let q : suc n - 1 ≡ n = omega arith in
      rw q refl

  left_cons : (n b : ℕ) (t : List ℕ) → (n ≡ 0 → ⊥) → left n (b ∷ t) ≡ left (n - 1) (skip_blanks (after_token (b ∷ t)))
  unfolding left
  left_cons zero b t z = absurd (z refl)
  left_cons (suc n) b t z =
      let q : suc n - 1 ≡ n = omega arith in
      rw q refl

  module _ (n : ℕ) (s : List ℕ) (at : ℕ) (some_left : n ≡ 0 → ⊥) where
    pub tokens_short : at ≡ length s → tokens_in low high n (drop at s) ≡ stopped data_ends_early
    tokens_short q = rw (back s at (omega arith)) (tokens_end n some_left)

    module _ (h : at < length s) where
      step_left : left n (drop at s) ≡ left (n - 1) (skip_blanks (after_token (drop at s)))
      step_left = rw (front s at h) (left_cons n _ _ some_left)

      step : tokens_in low high n (drop at s)
          ≡ push (ranged low high (token_value (token (drop at s)))) (samples_in low high (n - 1) (after_token (drop at s)))
      step = rw (front s at h) (tokens_cons n _ _ some_left)

      pub tokens_bad : None ≡ token_at low high s at → tokens_in low high n (drop at s) ≡ stopped bad_sample
      tokens_bad q =
          let o = unsampled (ranged low high (token_value (token (drop at s)))) (at + length (token (drop at s))) (sym q) in
          step ∙ ap (λ (x : Option ℤ). push x (samples_in low high (n - 1) (after_token (drop at s)))) o

      module _ (z : ℤ) (e : ℕ) (q : sample z e ≡ token_at low high s at) where
        here : (ranged low high (token_value (token (drop at s))) ≡ some z) × (at + length (token (drop at s)) ≡ e)
        here = sampled (ranged low high (token_value (token (drop at s)))) (at + length (token (drop at s))) z e (sym q)

        rest : after_token (drop at s) ≡ drop e s
        rest =
            after_drop (drop at s) ∙ drop-drop (length (token (drop at s))) at s ∙ ap (λ (k : ℕ). drop k s) here.1

        pub got : Got low high n s at z e
        got = record {
          ahead = omega (arith, here.1, some_long low high (token (drop at s)) z here.0);
          within = omega (arith, here.1, token_within (drop at s), length-drop at s);
          more =
              step ∙ ap (λ (x : Option ℤ). push x (samples_in low high (n - 1) (after_token (drop at s)))) here.0
              ∙ ap (λ (l : List ℕ). with_sample z (samples_in low high (n - 1) l)) rest;
          past = step_left ∙ ap (λ (l : List ℕ). left (n - 1) (skip_blanks l)) rest;
        }

-- ---- a walk over n tokens

module _ (low high : ℕ) where
  pub walked_none : (n : ℕ) (s : List ℕ) (at : ℕ) (z : ℤ) → n ≡ 0 → at ≤ length s → Walked low high n (drop at s) z s 0 at z
  unfolding left
  walked_none n s at z q h =
      let k = tokens_none low high n (drop at s) q in
      record {
        code = sym (ap (λ (x : Decoded). x.number) k);
        within = h;
        place = λ e. sym (ap (λ (m : ℕ). left m (drop at s)) q);
        last = sym (ap (λ (x : Decoded). last_of z x.seen) k);
        fits = λ f. f;
      }

  pub walked_stop : (n : ℕ) (s : List ℕ) (at : ℕ) (z : ℤ) (t : List ℕ) (c : ℕ) → (c ≡ 0 → ⊥)
      → tokens_in low high n t ≡ stopped c → at ≤ length s → Walked low high n t z s c at z
  walked_stop n s at z t c no_0 k h = record {
    code = sym (ap (λ (x : Decoded). x.number) k);
    within = h;
    place = λ e. absurd (no_0 e);
    last = sym (ap (λ (x : Decoded). last_of z x.seen) k);
    fits = λ f. f;
  }

  pub walked_more : (n : ℕ) (s : List ℕ) (at : ℕ) (z z₁ z₂ : ℤ) (e r e' : ℕ) (y : ℤ) → Got low high n s at z₁ e → z₂ ≡ z₁
      → SFits w64 z₁ → Walked low high (n - 1) (skip_blanks (drop e s)) z₂ s r e' y → Walked low high n (drop at s) z s r e' y
  walked_more n s at z z₁ z₂ e r e' y g p f w = record {
    code = w.code ∙ sym (ap (λ (x : Decoded). x.number) g.more);
    within = w.within;
    place = λ q. w.place q ∙ sym g.past;
    last =
        w.last ∙ ap (λ (x : ℤ). last_of x (samples_in low high (n - 1) (drop e s)).seen) p
        ∙ sym (ap (λ (x : Decoded). last_of z x.seen) g.more);
    fits = λ _. w.fits (rw p f);
  }

-- ---- m tokens, and then j more

-- samples before the ones of d
abbrev joined : List ℤ → Decoded → Decoded
joined [] d = d
joined (z ∷ l) d = with_sample z (joined l d)

joined_number : (l : List ℤ) (d : Decoded) → (joined l d).number ≡ d.number
joined_number [] d = refl
joined_number (z ∷ l) d = joined_number l d

module _ (low high : ℕ) where
  abbrev next : ℕ → List ℕ → Decoded
  next m t = tokens_in low high m (skip_blanks (after_token t))

  -- none of the m is refused
  tokens_more : (m j : ℕ) (t : List ℕ) → (tokens_in low high m t).number ≡ 0
      → tokens_in low high (m + j) t ≡ joined (tokens_in low high m t).seen (tokens_in low high j (left m t))
  unfolding tokens_in left
  tokens_more zero j t e = ap (λ (i : ℕ). tokens_in low high i t) (zero-add j)
  tokens_more (suc m) j [] e = absurd (omega arith)
  tokens_more (suc m) j (b ∷ t) e =
      ap (λ (i : ℕ). tokens_in low high i (b ∷ t)) (suc-add m j) ∙ go (ranged low high (token_value (token (b ∷ t)))) (tokens_more m j (skip_blanks (after_token (b ∷ t)))) e
    where
      go : (o : Option ℤ)
          → ((next m (b ∷ t)).number ≡ 0 → next (m + j) (b ∷ t) ≡ joined (next m (b ∷ t)).seen (tokens_in low high j (left m (skip_blanks (after_token (b ∷ t))))))
          → (push o (next m (b ∷ t))).number ≡ 0
          → push o (next (m + j) (b ∷ t)) ≡ joined (push o (next m (b ∷ t))).seen (tokens_in low high j (left m (skip_blanks (after_token (b ∷ t)))))
      go none ih q = absurd (omega arith)
      go (some z) ih q = ap (with_sample z) (ih q)

  -- one of the m is refused
  tokens_refused : (m j : ℕ) (t : List ℕ) → ((tokens_in low high m t).number ≡ 0 → ⊥) → tokens_in low high (m + j) t ≡ tokens_in low high m t
  unfolding tokens_in
  tokens_refused zero j t e = absurd (e refl)
  tokens_refused (suc m) j [] e = ap (λ (i : ℕ). tokens_in low high i []) (suc-add m j)
  tokens_refused (suc m) j (b ∷ t) e =
      ap (λ (i : ℕ). tokens_in low high i (b ∷ t)) (suc-add m j) ∙ go (ranged low high (token_value (token (b ∷ t)))) (tokens_refused m j (skip_blanks (after_token (b ∷ t)))) e
    where
      go : (o : Option ℤ) → (((next m (b ∷ t)).number ≡ 0 → ⊥) → next (m + j) (b ∷ t) ≡ next m (b ∷ t))
          → ((push o (next m (b ∷ t))).number ≡ 0 → ⊥) → push o (next (m + j) (b ∷ t)) ≡ push o (next m (b ∷ t))
      go none ih q = refl
      go (some z) ih q = ap (with_sample z) (ih q)

  -- of one token the last value is the only one
  one_seen : (t : List ℕ) (z : ℤ) → (tokens_in low high 1 t).number ≡ 0 → (tokens_in low high 1 t).seen ≡ last_of z (tokens_in low high 1 t).seen ∷ []
  unfolding tokens_in
  one_seen [] z e = absurd (omega arith)
  one_seen (b ∷ t) z e = go (ranged low high (token_value (token (b ∷ t)))) e
    where
      go : (o : Option ℤ) → (push o (stopped 0)).number ≡ 0 → (push o (stopped 0)).seen ≡ last_of z (push o (stopped 0)).seen ∷ []
      go none q = absurd (omega arith)
      go (some y) q = refl

  one_refused : (t : List ℕ) → ((tokens_in low high 1 t).number ≡ 0 → ⊥) → (tokens_in low high 1 t).seen ≡ []
  unfolding tokens_in
  one_refused [] e = refl
  one_refused (b ∷ t) e = go (ranged low high (token_value (token (b ∷ t)))) e
    where
      go : (o : Option ℤ) → ((push o (stopped 0)).number ≡ 0 → ⊥) → (push o (stopped 0)).seen ≡ []
      go none q = refl
      go (some y) q = absurd (q refl)

-- ---- a list that is filled

positive : (t m : ℕ) → 0 < t * m → 0 < m
positive t zero h = absurd (omega (arith, mul-zero t))
positive t (suc m) h = omega arith

module _ (low high step n : ℕ) (s : List ℕ) (d₀ : List ℤ) where
  abbrev all : Decoded
  all = samples_in low high n s

  -- k samples of n are read, up to `at`, the last of them z: what they come to is what the others, from `at` on, come to; and read one in each turn, the others
  -- make of d what all make of d₀
  pub record Filling (d : List ℤ) (at k : ℕ) (z : ℤ) : Type 0 where
    pub within : at ≤ length s
    pub few : k ≤ n
    pub turns : Divides step (n - k)
    pub long : length d ≡ length d₀
    pub fits : SFits w64 z
    pub code : all.number ≡ (tokens_in low high (n - k) (drop at s)).number
    pub same : step ≡ 1 → sets d₀ 0 all.seen ≡ sets d k (tokens_in low high (n - k) (drop at s)).seen

  -- what all samples come to, and what the list holds then
  pub record Filled (r : ℕ) (d : List ℤ) : Type 0 where
    pub code : r ≡ all.number
    pub held : step ≡ 1 → d ≡ sets d₀ 0 all.seen

  pub filling_none : {e : ℕ} → Divides step n → Skipped s 0 e → Filling d₀ e 0 (pos 0)
  filling_none {e} t k =
      let q : n ≡ n - 0 = omega arith in
      let p : all ≡ tokens_in low high (n - 0) (drop e s) =
      ap (tokens_in low high n) k.past ∙ ap (λ (m : ℕ). tokens_in low high m (drop e s)) q in
      record {
        within = k.within;
        few = omega arith;
        turns = (t.0, sym q ∙ t.1);
        long = refl;
        fits = record { sfits = omega arith };
        code = ap (λ (x : Decoded). x.number) p;
        same = λ one. ap (λ (x : Decoded). sets d₀ 0 x.seen) p;
      }

  module _ {d : List ℤ} {at k : ℕ} {z : ℤ} (f : Filling d at k z) where
    -- a turn more leaves no less than none
    pub turn : k < n → (0 < step) × ((k + step ≤ n) × Divides step (n - (k + step)))
    turn h = go f.turns.0 f.turns.1
      where
        go : (t : ℕ) → n - k ≡ t * step → (0 < step) × ((k + step ≤ n) × Divides step (n - (k + step)))
        go zero e = absurd (omega (arith, zero-mul step))
        go (suc t) e = (positive (suc t) step (omega arith), (omega (arith, suc-mul t step), (t, omega (arith, suc-mul t step))))

    module _ {r e : ℕ} {y : ℤ} (h : k < n) (w : Walked low high step (drop at s) z s r e y) where
      abbrev others : ℕ
      others = n - (k + step)

      parted : n - k ≡ step + others
      parted = omega (arith, (turn h).1.0)

      refused_here : (r ≡ 0 → ⊥) → tokens_in low high (n - k) (drop at s) ≡ tokens_in low high step (drop at s)
      refused_here q =
          ap (λ (m : ℕ). tokens_in low high m (drop at s)) parted ∙ tokens_refused low high step others (drop at s) (λ c. q (w.code ∙ c))

      pub filling_stop : (r ≡ 0 → ⊥) → Filled r d
      filling_stop q = record {
        code = w.code ∙ sym (f.code ∙ ap (λ (x : Decoded). x.number) (refused_here q));
        held = λ one.
            let c : (tokens_in low high 1 (drop at s)).number ≡ 0 → ⊥ = λ c. q (w.code ∙ ap (λ (m : ℕ). (tokens_in low high m (drop at s)).number) one ∙ c) in
            sym (f.same one ∙ ap (λ (x : Decoded). sets d k x.seen) (refused_here q ∙ ap (λ (m : ℕ). tokens_in low high m (drop at s)) one)
            ∙ ap (sets d k) (one_refused low high (drop at s) c));
      }

      more_here : r ≡ 0 → tokens_in low high (n - k) (drop at s)
          ≡ joined (tokens_in low high step (drop at s)).seen (tokens_in low high others (drop e s))
      more_here q =
          ap (λ (m : ℕ). tokens_in low high m (drop at s)) parted
          ∙ tokens_more low high step others (drop at s) (sym w.code ∙ q)
          ∙ ap (λ (t : List ℕ). joined (tokens_in low high step (drop at s)).seen (tokens_in low high others t)) (sym (w.place q))

      -- what was read in a turn of one
      only : r ≡ 0 → step ≡ 1 → (tokens_in low high step (drop at s)).seen ≡ y ∷ []
      only q one =
          let m : tokens_in low high step (drop at s) ≡ tokens_in low high 1 (drop at s) = ap (λ (m : ℕ). tokens_in low high m (drop at s)) one in
          let l = ap (λ (x : Decoded). last_of z x.seen) m in
          ap (λ (x : Decoded). x.seen) m
          ∙ one_seen low high (drop at s) z (sym (ap (λ (x : Decoded). x.number) m) ∙ sym w.code ∙ q)
          ∙ ap (λ (x : ℤ). x ∷ []) (sym (w.last ∙ l))

      -- the value is stored as its bits
      kept : to_z w64 (of_z w64 y) ≡ y
      kept = to_z-of_z (w.fits f.fits)

      pub filling_more : {d' : List ℤ} → r ≡ 0 → d' ≡ set d k (to_z w64 (of_z w64 y)) → Filling d' e (k + step) (to_z w64 (of_z w64 y))
      filling_more {d'} q p =
          let p' : d' ≡ set d k y = p ∙ ap (set d k) kept in
          record {
            within = w.within;
            few = (turn h).1.0;
            turns = (turn h).1.1;
            long = ap length p' ∙ length-set d k y ∙ f.long;
            fits = rw kept (w.fits f.fits);
            code =
                f.code ∙ ap (λ (x : Decoded). x.number) (more_here q)
                ∙ joined_number (tokens_in low high step (drop at s)).seen (tokens_in low high others (drop e s));
            same = λ one.
                let next_place : suc k ≡ k + step = omega arith in
                f.same one ∙ ap (λ (x : Decoded). sets d k x.seen) (more_here q)
                ∙ ap (λ (l : List ℤ). sets d k (joined l (tokens_in low high others (drop e s))).seen) (only q one)
                ∙ ap (λ (j : ℕ). sets (set d k y) j (tokens_in low high others (drop e s)).seen) next_place
                ∙ ap (λ (x : List ℤ). sets x (k + step) (tokens_in low high others (drop e s)).seen) (sym p');
          }

    pub filling_done : n ≤ k → Filled 0 d
    filling_done h =
        let none_left = tokens_none low high (n - k) (drop at s) (omega arith) in
        record {
          code = sym (f.code ∙ ap (λ (x : Decoded). x.number) none_left);
          held = λ one. sym (f.same one ∙ ap (λ (x : Decoded). sets d k x.seen) none_left);
        }

-- ---- the samples of a type are those between its bounds

module _ (k : NumberKind) (w : ℕ) where
  type_range : (z : ℤ) → in_type k w z ≡ in_range (lowest k w) (highest k w) z
  unfolding in_type in_range
  type_range (pos n) = refl
  type_range (negsuc n) = refl

  type_push : (o : Option ℤ) (r : Decoded) → text_sample k w o r ≡ push (ranged (lowest k w) (highest k w) o) r
  unfolding ranged
  type_push none r = refl
  type_push (some z) r = rw (type_range z) (go (in_range (lowest k w) (highest k w) z))
    where
      go : (t : Bool) → (if t then with_sample z r else stopped bad_sample) ≡ push (if t then some z else none) r
      go true = refl
      go false = refl

  type_tokens : (n : ℕ) (t : List ℕ) → tokens k w n t ≡ tokens_in (lowest k w) (highest k w) n t
  unfolding tokens tokens_in
  type_tokens zero t = refl
  type_tokens (suc n) [] = refl
  type_tokens (suc n) (b ∷ t) =
      ap (text_sample k w (token_value (token (b ∷ t)))) (type_tokens n (skip_blanks (after_token (b ∷ t))))
      ∙ type_push (token_value (token (b ∷ t))) (samples_in (lowest k w) (highest k w) n (after_token (b ∷ t)))

  module _ {low high : ℕ} (p : low ≡ lowest k w) (q : high ≡ highest k w) where
    type_samples : (n : ℕ) (s : List ℕ) → text_samples k w n s ≡ samples_in low high n s
    type_samples n s = rw (p, q) (type_tokens n (skip_blanks s))

    pub by_type : {A : Type 0} (f : Decoded → A) (n : ℕ) (s : List ℕ) → f (samples_in low high n s) ≡ f (text_samples k w n s)
    by_type f n s = sym (ap f (type_samples n s))

-- there are at most as many samples as were asked for
push_length : (o : Option ℤ) (r : Decoded) (n : ℕ) → length r.seen ≤ n → length (push o r).seen ≤ suc n
push_length none r n h = omega arith
push_length (some z) r n h = omega arith

seen_within : (low high n : ℕ) (t : List ℕ) → length (tokens_in low high n t).seen ≤ n
unfolding tokens_in
seen_within low high zero t = omega arith
seen_within low high (suc n) [] = omega arith
seen_within low high (suc n) (b ∷ t) =
    push_length (ranged low high (token_value (token (b ∷ t)))) _ n (seen_within low high n (skip_blanks (after_token (b ∷ t))))

-- samples for which a list has room are stored in front
pub in_front : (k : NumberKind) (w n : ℕ) (s : List ℕ) (d : List ℤ) → n ≤ length d → sets d 0 (text_samples k w n s).seen ≡ over (text_samples k w n s).seen d
in_front k w n s d h =
    let vs = (text_samples k w n s).seen in
    let few : length vs ≤ n =
    rw (type_samples k w refl refl n s) (seen_within (lowest k w) (highest k w) n (skip_blanks s)) in
    sets-eq vs d 0 (omega arith) ∙ ap (λ (j : ℕ). vs ++ drop j d) (zero-add (length vs))
