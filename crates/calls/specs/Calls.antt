-- One schema of a call: its tests in order, what a refusal answers, what a served call answers and leaves; and what is true of every call. Over any types
-- of what it takes (I), answers (A), leaves in its buffers (B) and counts (W). Assumes nothing: these are definitions.
use Rattle.std.specs.Prelude.{ℕ, ◌≡◌, ◌↔◌, List, map}
use Rattle.std.proofs.Math.Option.{Option, none, some}
use Rattle.words.specs.Tests.{Test, first_failing, number_of, AllPass, FirstFails}

-- ---- a call
-- E is what an answer says first, of which some are refusals: the answer itself, or one of its fields
pub record CallSchema (I A E B W : Type 0) : Type 0 where
  -- the tests, in the order in which they are made, and their numbers in the rules
  pub tests : I → List Test
  pub numbers : I → List ℕ
  -- the buffers as they are lent
  pub lent : I → B
  -- the answer to a call that is refused by a number
  pub refuses : ℕ → A
  -- where every test passes: the answer, the buffers at exit, and what the answer counts, as words written
  pub serves : I → A
  pub leaves : I → B
  pub counts : I → W
  -- what an answer says first; which of it is the refusal by a number; the number that it tells, 0 where it is no refusal; what an answer counts, and nothing
  pub says : A → E
  pub refusal : ℕ → E
  pub tells : E → ℕ
  pub counted : A → W
  pub nothing : W

pub record CallResult (A B : Type 0) : Type 0 where
  pub answer : A
  pub buffers : B

-- the outcome by the number of the first test that fails: a refusal leaves the buffers as they were
abbrev pub result_by_number : {I A E B W : Type 0} → CallSchema I A E B W → I → Option ℕ → CallResult A B
result_by_number c i (some x) = record { answer = c.refuses x; buffers = c.lent i }
result_by_number c i none = record { answer = c.serves i; buffers = c.leaves i }

-- the call as a function
unfoldable pub result_of_call : {I A E B W : Type 0} → CallSchema I A E B W → I → CallResult A B
result_of_call c i = result_by_number c i (first_failing (c.tests i))

-- what a call counts: `w` where all its tests pass, `nothing` where one fails
abbrev pub counts_by : {W : Type 0} → Option ℕ → W → W → W
counts_by none w nothing = w
counts_by (some x) w nothing = nothing

-- ---- what is true of every call
module _ {I A E B W : Type 0} (c : CallSchema I A E B W) (i : I) where
  -- an answer by the rules' number and values (docs/RULES.md, 10)
  pub record AnswersRight (a : A) : Type 0 where
    -- the number of the first test that fails, 0 where all pass
    pub number : c.tells (c.says a) ≡ number_of (first_failing (c.tests i))
    -- what is counted where all pass, else nothing
    pub words : c.counted a ≡ counts_by (first_failing (c.tests i)) (c.counts i) c.nothing

  -- the call is refused by a number
  abbrev pub RefusedBy : ℕ → Type 0
  RefusedBy x = c.says (result_of_call c i).answer ≡ c.refusal x

  -- the call is refused by no number
  abbrev pub NotRefused : Type 0
  NotRefused = (x : ℕ) → ¬ RefusedBy x

  -- the buffers are as they were lent, and nothing is counted
  pub record NothingDone : Type 0 where
    pub buffers : (result_of_call c i).buffers ≡ c.lent i
    pub words : c.counted (result_of_call c i).answer ≡ c.nothing

  -- demand 1 of the call
  pub record CallRefusals : Type 0 where
    -- the table's numbers, in the table's order
    pub order : map (λ (x : Test). x.0) (c.tests i) ≡ c.numbers i
    -- its answer has the number of the first test that fails, 0 where all pass, and counts what is written where all pass
    pub number : AnswersRight (result_of_call c i).answer
    -- it is refused by x exactly where x is the number of the first test that fails
    pub refused : (x : ℕ) → RefusedBy x ↔ FirstFails x (c.tests i)
    -- a refusal changes no buffer
    pub unchanged : (x : ℕ) → RefusedBy x → NothingDone
    -- it is served, answering no such number, exactly where every test passes
    pub served : NotRefused ↔ AllPass (c.tests i)

-- ---- what is asked of a description of a call, so that it is true: each by itself a line to see
pub record RightCall {I A E B W : Type 0} (c : CallSchema I A E B W) : Type 0 where
  pub order : (i : I) → map (λ (x : Test). x.0) (c.tests i) ≡ c.numbers i
  -- a refusal says so, tells its number and counts nothing
  pub refused : (x : ℕ) → c.says (c.refuses x) ≡ c.refusal x
  pub told : (x : ℕ) → c.tells (c.refusal x) ≡ x
  pub empty : (x : ℕ) → c.counted (c.refuses x) ≡ c.nothing
  -- where every test passes, the answer is no refusal, tells 0, and counts what the call counts
  pub serving : (i : I) → AllPass (c.tests i) → (x : ℕ) → ¬ (c.says (c.serves i) ≡ c.refusal x)
  pub zero : (i : I) → AllPass (c.tests i) → c.tells (c.says (c.serves i)) ≡ 0
  pub counting : (i : I) → AllPass (c.tests i) → c.counted (c.serves i) ≡ c.counts i
