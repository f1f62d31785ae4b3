-- `find`: its refusals, and that its answers tell where the string stands.
use Prim.Native.Nat.{ℕ}
use native.Mathlib.Omega.{arith}
use mathlib.Core.Path.{◌≡◌, refl, sym, ◌∙◌, ap}
use mathlib.Core.Bool.{true, false}
use mathlib.Core.Option.{none, some}
use mathlib.Core.List.{List}
use lib.Dec.{ltb}
use Rattle.words.specs.Tests.{first_failing}
use Rattle.sequences.proofs.Booleans.{Decided, yes, no, decided}
use Rattle.sequences.proofs.Ascending.{Ascending, neighbours_ascending}
use Rattle.calls.specs.Calls.{CallSchema, CallResult, RightCall, CallRefusals, AnswersRight, result_of_call}
use Rattle.calls.proofs.Refusals.{by_number_lem, by_none, call_told, call_refusals}
use Rattle.dictionaries.specs.declared.StringKind.{StringKind}
use Rattle.std.specs.Prelude.{Result, Ok, Err}
use Rattle.dictionaries.specs.Strings.{string_before}
use Rattle.dictionaries.specs.Dictionaries.{strings_of, string_rank, is_among}
use Rattle.dictionaries.specs.Checking.{dictionary_right}
use Rattle.dictionaries.specs.Lookups.{lookup_in}
use Rattle.dictionaries.proofs.Strings.{before_ordered}
use Rattle.dictionaries.proofs.Searching.{strings_length}
use Rattle.dictionaries.proofs.Ranking.{StandsAt, found, rank_tells}
use Rattle.dictionaries.proofs.Checking.{tested}
use Rattle.dictionary_lookups.specs.declared.StringFound.{StringFound}
use Rattle.dictionary_lookups.specs.declared.StringFound.TheVariants.{At, Absent, Refused}
use Rattle.dictionary_lookups.specs.Finding.{FindInput, dictionary_tests, found_string, found_refusal, found_lookup, find_call, HoldsString, FindsRight}

-- a call that leaves no buffer answers so, and the answer has its number and its values
abbrev pub Equals : {I A E W : Type 0} → CallSchema I A E (Unit {0}) W → I → A → Type 0
Equals c i a = (record { answer = a; buffers = tt } ≡ result_of_call c i) × AnswersRight c i a

no_refusal : (l : Result ℕ ℕ) (x : ℕ) → ¬ (found_string l ≡ Refused x)
no_refusal (Ok n) x e = let z : ◌≡◌ {A = ℕ} 0 1 = cc in omega arith
no_refusal (Err n) x e = let z : ◌≡◌ {A = ℕ} 0 1 = cc in omega arith

tells_none : (l : Result ℕ ℕ) → found_refusal (found_string l) ≡ 0
tells_none (Ok n) = refl
tells_none (Err n) = refl

tells_lookup : (l : Result ℕ ℕ) → found_lookup (found_string l) ≡ some l
tells_lookup (Ok n) = refl
tells_lookup (Err n) = refl

pub find_right : RightCall find_call
find_right =
    record {
      order = λ i. refl;
      refused = λ x. refl;
      told = λ x. refl;
      empty = λ x. refl;
      serving = λ i h x. no_refusal (lookup_in (strings_of i.bytes i.ends) i.sought) x;
      zero = λ i h. tells_none (lookup_in (strings_of i.bytes i.ends) i.sought);
      counting = λ i h. tells_lookup (lookup_in (strings_of i.bytes i.ends) i.sought);
    }

pub find_refusals : (i : FindInput) → CallRefusals find_call i
find_refusals i = call_refusals find_call find_right i

-- ---- by the one test
module _ (k : StringKind) (bytes ends : List ℕ) where
  pub wrong_dictionary : dictionary_right k bytes ends ≡ false → first_failing (dictionary_tests k bytes ends) ≡ some 28
  unfolding first_failing
  wrong_dictionary e = rw e

  pub right_dictionary : dictionary_right k bytes ends ≡ true → first_failing (dictionary_tests k bytes ends) ≡ none
  unfolding first_failing
  right_dictionary e = rw e

  pub ascends : dictionary_right k bytes ends ≡ true → Ascending string_before (strings_of bytes ends)
  ascends e = neighbours_ascending before_ordered (strings_of bytes ends) ((tested k bytes ends).0 e).right.ascend

-- ---- a result that the code has, by what it knows
pub find_refused : (i : FindInput) → dictionary_right i.kind i.bytes i.ends ≡ false → Equals find_call i (Refused 28)
find_refused i e = call_told find_call find_right i (sym (by_number_lem find_call find_right i 28 (wrong_dictionary i.kind i.bytes i.ends e)))

pub find_served : (i : FindInput) → dictionary_right i.kind i.bytes i.ends ≡ true
    → (l : Result ℕ ℕ) → l ≡ lookup_in (strings_of i.bytes i.ends) i.sought → Equals find_call i (found_string l)
find_served i r l e =
    call_told find_call find_right i
    (ap (λ k. record { answer = found_string k; buffers = tt }) e ∙ sym (by_none find_call find_right i (right_dictionary i.kind i.bytes i.ends r)))

-- ---- what the answers say
module _ (i : FindInput) (r : dictionary_right i.kind i.bytes i.ends ≡ true) where
  abbrev strings : List (List ℕ)
  strings = strings_of i.bytes i.ends

  answered : (result_of_call find_call i).answer ≡ found_string (lookup_in (strings_of i.bytes i.ends) i.sought)
  answered = ap (λ (o : CallResult StringFound (Unit {0})). o.answer) (by_none find_call find_right i (right_dictionary i.kind i.bytes i.ends r))

  at_same : (l : Result ℕ ℕ) (n : ℕ) → found_string l ≡ At n → l ≡ Ok n
  at_same (Ok m) n e = let z : m ≡ n = cc in ap Ok z
  at_same (Err m) n e = absurd (let z : ◌≡◌ {A = ℕ} 0 1 = cc in omega arith)

  absent_same : (l : Result ℕ ℕ) (n : ℕ) → found_string l ≡ Absent n → l ≡ Err n
  absent_same (Ok m) n e = absurd (let z : ◌≡◌ {A = ℕ} 0 1 = cc in omega arith)
  absent_same (Err m) n e = let z : m ≡ n = cc in ap Err z

  rank_of : (n : ℕ) → lookup_in strings i.sought ≡ Err n → Decided (is_among strings i.sought) → string_rank strings i.sought ≡ n
  unfolding lookup_in
  rank_of n e (yes h) = absurd (let f = rw h at e in let z : ◌≡◌ {A = ℕ} 0 1 = cc in omega arith)
  rank_of n e (no h) = let f = rw h at e in cc

  stands : (n : ℕ) → StandsAt i.sought strings n → HoldsString i.bytes i.ends i.sought n
  stands n w = let l = strings_length i.bytes 0 i.ends in let m = w.within in record { within = omega arith; is = w.is }

  held : (n : ℕ) → HoldsString i.bytes i.ends i.sought n → StandsAt i.sought strings n
  held n w = let l = strings_length i.bytes 0 i.ends in let m = w.within in record { within = omega arith; is = w.is }

  pub finds_right : FindsRight i
  finds_right =
      record {
        at = λ n. (
          λ e. stands n ((found i.sought strings up n).0 (at_same (lookup_in strings i.sought) n (sym answered ∙ e))),
          λ w. answered ∙ ap found_string ((found i.sought strings up n).1 (held n w)),
        );
        nowhere = λ n e m w.
            let z : Ok m ≡ Err n = sym ((found i.sought strings up m).1 (held m w))
            ∙ absent_same (lookup_in strings i.sought) n (sym answered ∙ e) in
            let z : ◌≡◌ {A = ℕ} 0 1 = cc in omega arith;
        rank = λ n e m h.
            let l = strings_length i.bytes 0 i.ends in
            rank_tells i.sought strings up m (omega arith)
            ∙ ap (ltb m) (rank_of n (absent_same (lookup_in strings i.sought) n (sym answered ∙ e)) (decided (is_among strings i.sought)));
      }
    where
      up : Ascending string_before strings
      up = ascends i.kind i.bytes i.ends r
