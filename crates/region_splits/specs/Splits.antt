-- Which plans may be asked of the parts of split tables: each branch has one subject variable in all of its patterns, so that rows join only where they
-- have the same subject. Assumes nothing: these are definitions.
use Rattle.std.specs.Prelude.{ℕ, suc, ◌<◌, ◌≡◌, Bool, false, ◌&&◌, List, [], ◌∷◌, eqb, length}
use Rattle.sequences.specs.Sequences.{all}
use Rattle.tables.specs.Tables.{Tables, section}
use Rattle.plans.specs.Branches.{Branch}
use Rattle.plans.specs.Plans.{Plan}
use Rattle.sparql.specs.Terms.{RdfTerm, Triple}
use Rattle.sparql.specs.Expressions.{PatternTerm, variable, constant}
use Rattle.sparql.specs.Algebra.{TriplePattern, is_variable_named}
use Rattle.sparql.specs.Years.{years_read}
use Rattle.sparql.specs.Reading.{patterns_of, graph_of}

-- the subject of the first pattern is a variable, and that of every other is the same
abbrev pub is_subject : PatternTerm → List TriplePattern → Bool
is_subject (variable v) ps = all (λ (p : TriplePattern). is_variable_named v p.subject) ps
is_subject (constant x) ps = false

abbrev pub one_subject : List TriplePattern → Bool
one_subject [] = false
one_subject (p ∷ ps) = is_subject p.subject (p ∷ ps)

abbrev pub separable : Plan → Bool
separable q = all (λ (b : Branch). one_subject (patterns_of b.terms)) q.branches

-- each part has, of each year, the triples of the whole whose subjects are at home in it, and no other
abbrev pub SplitFrom : (RdfTerm → ℕ) → Tables → ℕ → List Tables → Type 0
SplitFrom home whole i [] = Unit {0}
SplitFrom home whole i (t ∷ ts) =
    ((year : ℕ) (x : Triple) → graph_of (section t year) x ≡ graph_of (section whole year) x && eqb (home x.subject) i)
    × SplitFrom home whole (suc i) ts

-- tables split by subject: every subject is at home in one of the parts
pub record SplitBySubject (whole : Tables) (parts : List Tables) : Type 0 where
  pub home : RdfTerm → ℕ
  pub there : (x : RdfTerm) → home x < length parts
  pub each : SplitFrom home whole 0 parts

-- each part reads the years that the whole does: of a named year always; of the latest where each part has rows of it
abbrev pub ReadAlike : Tables → List Tables → Plan → Type 0
ReadAlike whole [] q = Unit {0}
ReadAlike whole (t ∷ ts) q = (years_read t.rows q.years ≡ years_read whole.rows q.years) × ReadAlike whole ts q
