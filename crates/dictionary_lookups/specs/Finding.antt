-- Looking for a string: the call, and what its answers say. Assumes nothing: these are definitions.
use Rattle.std.specs.Prelude.{ℕ, ◌<◌, ◌≡◌, ◌↔◌, List, [], ◌∷◌, Result, Ok, Err, ltb, length, get_or}
use Rattle.std.proofs.Math.Option.{Option, none, some}
use Rattle.words.specs.Tests.{Test}
use Rattle.calls.specs.Calls.{CallSchema, result_of_call}
use Rattle.dictionaries.specs.declared.StringKind.{StringKind}
use Rattle.dictionaries.specs.Strings.{string_before}
use Rattle.dictionaries.specs.Dictionaries.{strings_of}
use Rattle.dictionaries.specs.Checking.{dictionary_right}
use Rattle.dictionaries.specs.Lookups.{lookup_in}
use Rattle.dictionary_lookups.specs.declared.StringFound.{StringFound}
use Rattle.dictionary_lookups.specs.declared.StringFound.TheVariants.{At, Absent, Refused}

-- what a call lends
pub record FindInput : Type 0 where
  pub kind : StringKind
  pub bytes : List ℕ
  pub ends : List ℕ
  pub sought : List ℕ

abbrev pub find_input : StringKind → List ℕ → List ℕ → List ℕ → FindInput
find_input kind bytes ends sought = record { kind = kind; bytes = bytes; ends = ends; sought = sought }

-- 28: the dictionary is right
abbrev pub dictionary_tests : StringKind → List ℕ → List ℕ → List Test
dictionary_tests kind bytes ends = (28, dictionary_right kind bytes ends) ∷ []

-- ---- an answer
abbrev pub found_string : Result ℕ ℕ → StringFound
found_string (Ok n) = At n
found_string (Err n) = Absent n

-- the number of the test that refused a call, 0 where it was served; where the string stands, or its rank
abbrev pub found_refusal : StringFound → ℕ
found_refusal (At n) = 0
found_refusal (Absent n) = 0
found_refusal (Refused x) = x

abbrev pub found_lookup : StringFound → Option (Result ℕ ℕ)
found_lookup (At n) = some (Ok n)
found_lookup (Absent n) = some (Err n)
found_lookup (Refused x) = none

-- ---- the call
abbrev pub find_call : CallSchema FindInput StringFound StringFound (Unit {0}) (Option (Result ℕ ℕ))
find_call =
    record {
      tests = λ i. dictionary_tests i.kind i.bytes i.ends;
      numbers = λ i. 28 ∷ [];
      lent = λ i. tt;
      refuses = Refused;
      serves = λ i. found_string (lookup_in (strings_of i.bytes i.ends) i.sought);
      leaves = λ i. tt;
      counts = λ i. some (lookup_in (strings_of i.bytes i.ends) i.sought);
      says = λ a. a;
      refusal = Refused;
      tells = found_refusal;
      counted = found_lookup;
      nothing = none;
    }

-- ---- what the answers say, of a right dictionary
-- the string `s` stands at the place `n`
pub record HoldsString (bytes ends s : List ℕ) (n : ℕ) : Type 0 where
  pub within : n < length ends
  pub is : get_or (strings_of bytes ends) n [] ≡ s

pub record FindsRight (i : FindInput) : Type 0 where
  -- a number is answered exactly where the string stands there
  pub at : (n : ℕ) → ((result_of_call find_call i).answer ≡ At n) ↔ HoldsString i.bytes i.ends i.sought n
  -- a rank is answered where it stands nowhere, and those that come before it are those below the rank
  pub nowhere : (n : ℕ) → (result_of_call find_call i).answer ≡ Absent n → (m : ℕ) → ¬ HoldsString i.bytes i.ends i.sought m
  pub rank : (n : ℕ) → (result_of_call find_call i).answer ≡ Absent n → (m : ℕ) → m < length i.ends
      → string_before (get_or (strings_of i.bytes i.ends) m []) i.sought ≡ ltb m n
