-- Years: whose rows a plan reads, told by the kind 0 word that may stand before its head. Assumes nothing: these are definitions.
use Rattle.std.specs.Prelude.{ℕ, Bool, true, cond, List, [], ◌∷◌, eqb, leb, drop, get_or}
use Rattle.words.specs.Words.{kind, low, year_kind, most_year}
use Rattle.plans.specs.declared.Years.{Years}
use Rattle.plans.specs.declared.Years.TheVariants.{Latest, Every, Named}

-- by the number of a kind 0 word: 0 is every year there is, any other number that year
abbrev pub years_numbered : ℕ → Years
years_numbered n = cond (eqb n 0) Every (Named n)

-- without that word the latest year
unfoldable pub years_in : List ℕ → Years
years_in [] = Latest
years_in (w ∷ ws) = cond (eqb (kind w) year_kind) (years_numbered (low w)) Latest

-- the words before a plan's head
unfoldable pub year_words : List ℕ → ℕ
year_words [] = 0
year_words (w ∷ ws) = cond (eqb (kind w) year_kind) 1 0

-- a plan's words from its head on; its head; and the words behind the head, where its branches stand
abbrev pub from_head : List ℕ → List ℕ
from_head ws = drop (year_words ws) ws

abbrev pub head_of : List ℕ → ℕ
head_of ws = get_or (from_head ws) 0 0

abbrev pub body_of : List ℕ → List ℕ
body_of ws = drop 1 (from_head ws)

-- ---- test 23: a year that is named is one that rows may have
abbrev pub year_allowed : Years → Bool
year_allowed Latest = true
year_allowed Every = true
year_allowed (Named n) = leb n most_year
