-- The string of a number: the call, and what its answers say. Assumes nothing: these are definitions.
use Rattle.std.specs.Prelude.{ℕ, ◌≤◌, ◌<◌, ◌≡◌, cond, ◌↔◌, List, [], ◌∷◌, ltb, length, get_or}
use Rattle.calls.specs.Calls.{CallSchema, result_of_call}
use Rattle.dictionaries.specs.declared.StringKind.{StringKind}
use Rattle.dictionaries.specs.Dictionaries.{byte_range, strings_of}
use Rattle.dictionary_lookups.specs.declared.StringBounds.{StringBounds}
use Rattle.dictionary_lookups.specs.declared.StringBounds.TheVariants.{Part, Past, Refused}
use Rattle.dictionary_lookups.specs.Finding.{dictionary_tests}

-- what a call lends
pub record StringInput : Type 0 where
  pub kind : StringKind
  pub bytes : List ℕ
  pub ends : List ℕ
  pub number : ℕ

abbrev pub string_input : StringKind → List ℕ → List ℕ → ℕ → StringInput
string_input kind bytes ends n = record { kind = kind; bytes = bytes; ends = ends; number = n }

-- ---- an answer
-- from where to where the string with the number `n` goes: it starts where the one before it ends
abbrev pub bounds_in : List ℕ → ℕ → StringBounds
bounds_in ends n = cond (ltb n (length ends)) (Part (get_or (0 ∷ ends) n 0) (get_or ends n 0)) Past

abbrev pub bounded_refusal : StringBounds → ℕ
bounded_refusal (Part a e) = 0
bounded_refusal Past = 0
bounded_refusal (Refused x) = x

-- ---- the call. An answer counts no words
abbrev pub string_call : CallSchema StringInput StringBounds StringBounds (Unit {0}) (Unit {0})
string_call =
    record {
      tests = λ i. dictionary_tests i.kind i.bytes i.ends;
      numbers = λ i. 28 ∷ [];
      lent = λ i. tt;
      refuses = Refused;
      serves = λ i. bounds_in i.ends i.number;
      leaves = λ i. tt;
      counts = λ i. tt;
      says = λ a. a;
      refusal = Refused;
      tells = bounded_refusal;
      counted = λ a. tt;
      nothing = tt;
    }

-- ---- what the answers say, of a right dictionary
-- the bytes from `a` up to `e`, inside of those lent, are the string of the number that is asked
pub record LentString (i : StringInput) (a e : ℕ) : Type 0 where
  pub numbered : i.number < length i.ends
  pub ordered : a ≤ e
  pub within : e ≤ length i.bytes
  pub is : byte_range i.bytes a e ≡ get_or (strings_of i.bytes i.ends) i.number []

pub record LendsRight (i : StringInput) : Type 0 where
  pub bounds : (a e : ℕ) → (result_of_call string_call i).answer ≡ Part a e → LentString i a e
  pub past : ((result_of_call string_call i).answer ≡ Past) ↔ (length i.ends ≤ i.number)
