-- The two lists of entries that are lent, the line and the list set aside; and tests 17 and 18 of them. Assumes nothing: these are
-- definitions.
use Rattle.std.specs.Prelude.{ℕ, ◌+◌, ◌-◌, Bool, cond, ◌&&◌, List, [], ◌++◌, map, length, take, drop, replicate, leb, eqb}
use Rattle.sequences.specs.Sequences.{all, distinct}
use Rattle.plans.specs.Plans.{most_plan_words}
use Rattle.queues.specs.declared.Entry.{Entry}

-- the most entries in all; the words that an entry has for its plan, as many as the longest has, and for its state
abbrev pub most_entries : ℕ
most_entries = 32

abbrev pub entry_plan_room : ℕ
entry_plan_room = most_plan_words

abbrev pub entry_state_room : ℕ
entry_state_room = 11

-- both lists: each is the first entries of its buffer, as many as the call gives, or all of them where it gives more
pub record LentLists : Type 0 where
  pub line : List Entry
  pub waiting : ℕ
  pub aside : List Entry
  pub resting : ℕ

abbrev pub lent_as : List Entry → ℕ → List Entry → ℕ → LentLists
lent_as line waiting aside resting = record { line = line; waiting = waiting; aside = aside; resting = resting }

abbrev pub line_of : LentLists → List Entry
line_of l = take l.waiting l.line

abbrev pub aside_of : LentLists → List Entry
aside_of l = take l.resting l.aside

-- both lists by themselves
pub record Queue : Type 0 where
  pub line : List Entry
  pub aside : List Entry

-- the words of an entry's plan; a count past the array's end stands for no plan, which test 5 refuses
abbrev pub entry_plan : Entry → List ℕ
entry_plan e = cond (leb e.planned (length e.plan)) (take e.planned e.plan) []

-- the words `ws`, and 0 in the rest of an array of `n`
abbrev pub filled : ℕ → List ℕ → List ℕ
filled n ws = ws ++ replicate (n - length ws) 0

-- a buffer with its first entries replaced
abbrev pub entries_over : List Entry → List Entry → List Entry
entries_over es buffer = es ++ drop (length es) buffer

-- ---- test 17
abbrev pub owners_in : List Entry → List ℕ
owners_in es = map (λ (e : Entry). e.owner) es

abbrev pub owners : LentLists → List ℕ
owners l = owners_in (line_of l) ++ owners_in (aside_of l)

abbrev pub has_owner : ℕ → Entry → Bool
has_owner owner e = eqb e.owner owner

-- who waits has steps left, and who is set aside has none
abbrev pub has_steps : Entry → Bool
has_steps e = leb 1 e.allowance

abbrev pub has_none : Entry → Bool
has_none e = eqb e.allowance 0

-- no owner has two entries, and every entry is in the list that its steps say: over all lent entries, however many
abbrev pub entries_right : LentLists → Bool
entries_right l = distinct (owners l) && (all has_steps (line_of l) && all has_none (aside_of l))

-- ---- test 18
-- each buffer has room for the most entries, and with `more` there are not too many. So no count passes its buffer
abbrev pub space_right : ℕ → LentLists → Bool
space_right more l =
    leb most_entries (length l.line) && (leb most_entries (length l.aside) && leb (l.waiting + l.resting + more) most_entries)
