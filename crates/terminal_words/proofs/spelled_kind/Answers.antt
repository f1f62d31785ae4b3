use lib.ListN.{length-map, length}
use Rattle.dictionaries.specs.Lookups.{lookup_in}
use Rattle.terminals.specs.Spellings.{capital, kind_at, spelled_words}
use Rattle.terminal_words.proofs.Spelled.{long_other, kind_of_capitals}
use mathlib.Core.Path.{refl, sym, ap, ◌∙◌}
use native.Mathlib.Omega.{arith}
use Rattle.terminal_words.proofs.spelled_kind.Goals as goal

-- src/lib.rt:63:9
pub returns-then-s-gt-LONGEST : goal.returns-then-s-gt-LONGEST
returns-then-s-gt-LONGEST c = (sym (long_other c.args.s.now (omega arith)), refl)

-- src/lib.rt:66:19
pub slice_bounds-capitals_kind-end-2 : goal.slice_bounds-capitals_kind-end-2
slice_bounds-capitals_kind-end-2 c =
    sym (ap length c.write_capitals.ensures.1 ∙ length-map
    c.args.s.now capital)

-- src/lib.rt:58:1
pub returns : goal.returns
returns c =
    let w = c.write_capitals.ensures in
    let s = c.args.s.now in
    (c.capitals_kind.ensures ∙ ap (λ x. kind_at (lookup_in spelled_words x)) w.1 ∙ kind_of_capitals s, w.0)
