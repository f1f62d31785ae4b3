-- `string`: its refusals, and that its answers bound the string of the number.
use Prim.Native.Nat.{ℕ, ◌≤◌, ◌<◌}
use native.Mathlib.Omega.{arith}
use mathlib.Core.Path.{◌≡◌, refl, sym, ◌∙◌, ap, ap₂}
use mathlib.Core.Bool.{Bool, true, false, cond}
use mathlib.Core.List.{List, ◌∷◌}
use lib.Dec.{ltb}
use lib.ListN.{length, get_or}
use borrow.Author.Tests.{lt-ltb, le-ltb, ltb-true, ltb-false}
use Rattle.sequences.proofs.Booleans.{Decided, yes, no, decided}
use Rattle.calls.specs.Calls.{CallResult, RightCall, CallRefusals, result_of_call}
use Rattle.calls.proofs.Refusals.{by_number_lem, by_none, call_told, call_refusals}
use Rattle.dictionaries.specs.Dictionaries.{byte_range}
use Rattle.dictionaries.specs.Checking.{dictionary_right}
use Rattle.dictionaries.proofs.Searching.{ends_bounds, strings_at_lem}
use Rattle.dictionaries.proofs.Checking.{tested}
use Rattle.dictionary_lookups.specs.declared.StringBounds.{StringBounds}
use Rattle.dictionary_lookups.specs.declared.StringBounds.TheVariants.{Part, Past, Refused}
use Rattle.dictionary_lookups.specs.Lending.{StringInput, bounds_in, bounded_refusal, string_call, LentString, LendsRight}
use Rattle.dictionary_lookups.proofs.Finding.{Equals, wrong_dictionary, right_dictionary}

no_refusal : (b : Bool) (ends : List ℕ) (n x : ℕ) → ¬ (cond b (Part (get_or (0 ∷ ends) n 0) (get_or ends n 0)) Past ≡ Refused x)
no_refusal true ends n x e = let z : ◌≡◌ {A = ℕ} 0 1 = cc in omega arith
no_refusal false ends n x e = let z : ◌≡◌ {A = ℕ} 0 1 = cc in omega arith

tells_none : (b : Bool) (ends : List ℕ) (n : ℕ) → bounded_refusal (cond b (Part (get_or (0 ∷ ends) n 0) (get_or ends n 0)) Past) ≡ 0
tells_none true ends n = refl
tells_none false ends n = refl

pub string_right_lem : RightCall string_call
string_right_lem =
    record {
      order = λ i. refl;
      refused = λ x. refl;
      told = λ x. refl;
      empty = λ x. refl;
      serving = λ i h x. no_refusal (ltb i.number (length i.ends)) i.ends i.number x;
      zero = λ i h. tells_none (ltb i.number (length i.ends)) i.ends i.number;
      counting = λ i h. refl;
    }

pub string_refusals : (i : StringInput) → CallRefusals string_call i
string_refusals i = call_refusals string_call string_right_lem i

-- the bounds of a number that there is, and past the last
pub bounds_within : (ends : List ℕ) (n : ℕ) → n < length ends → bounds_in ends n ≡ Part (get_or (0 ∷ ends) n 0) (get_or ends n 0)
bounds_within ends n h = rw (lt-ltb n (length ends) h)

pub bounds_past : (ends : List ℕ) (n : ℕ) → length ends ≤ n → bounds_in ends n ≡ Past
bounds_past ends n h = rw (le-ltb n (length ends) h)

-- ---- a result that the code has, by what it knows
pub string_refused : (i : StringInput) → dictionary_right i.kind i.bytes i.ends ≡ false → Equals string_call i (Refused 28)
string_refused i e = call_told string_call string_right_lem i (sym (by_number_lem string_call string_right_lem i 28 (wrong_dictionary i.kind i.bytes i.ends e)))

pub string_served : (i : StringInput) → dictionary_right i.kind i.bytes i.ends ≡ true
    → (b : StringBounds) → b ≡ bounds_in i.ends i.number → Equals string_call i b
string_served i r b e =
    call_told string_call string_right_lem i
    (ap (λ k. record { answer = k; buffers = tt }) e ∙ sym (by_none string_call string_right_lem i (right_dictionary i.kind i.bytes i.ends r)))

module _ (i : StringInput) (r : dictionary_right i.kind i.bytes i.ends ≡ true) where
  answered : (result_of_call string_call i).answer ≡ bounds_in i.ends i.number
  answered = ap (λ (o : CallResult StringBounds (Unit {0})). o.answer)
      (by_none string_call string_right_lem i (right_dictionary i.kind i.bytes i.ends r))

  bounds_by : Decided (ltb i.number (length i.ends)) → (a e : ℕ) → bounds_in i.ends i.number ≡ Part a e → LentString i a e
  bounds_by (no f) a e p = absurd
      (let h = ltb-false i.number (length i.ends) f in
      let q = sym (bounds_past i.ends i.number h) ∙ p in
      let z : ◌≡◌ {A = ℕ} 0 1 = cc in
      omega arith)
  bounds_by (yes f) a e p =
      let h = ltb-true i.number (length i.ends) f in
      let q = sym (bounds_within i.ends i.number h) ∙ p in
      let s : get_or (0 ∷ i.ends) i.number 0 ≡ a = cc in
      let t : get_or i.ends i.number 0 ≡ e = cc in
      let b = ends_bounds (length i.bytes) 0 i.ends ((tested i.kind i.bytes i.ends).0 r).right.cut i.number h in
      record {
        numbered = h;
        ordered = omega arith;
        within = omega arith;
        is = sym (strings_at_lem i.bytes 0 i.ends i.number h ∙ ap₂ (byte_range i.bytes) s t);
      }

  past_by : Decided (ltb i.number (length i.ends)) → bounds_in i.ends i.number ≡ Past → length i.ends ≤ i.number
  past_by (no f) p = ltb-false i.number (length i.ends) f
  past_by (yes f) p = absurd
      (let h = ltb-true i.number (length i.ends) f in
      let q = sym (bounds_within i.ends i.number h) ∙ p in
      let z : ◌≡◌ {A = ℕ} 0 1 = cc in
      omega arith)

  pub lends_right : LendsRight i
  lends_right =
      record {
        bounds = λ a e p. bounds_by (decided (ltb i.number (length i.ends))) a e (sym answered ∙ p);
        past = (
          λ p. past_by (decided (ltb i.number (length i.ends))) (sym answered ∙ p),
          λ h. answered ∙ bounds_past i.ends i.number h,
        );
      }
