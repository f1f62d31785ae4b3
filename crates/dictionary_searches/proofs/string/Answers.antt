-- `string` meets its contract.
use mathlib.Core.Path.{sym, ap₂, ◌∙◌}
use native.Mathlib.Omega.{arith}
use lib.ListN.{length}
use Rattle.dictionaries.specs.Dictionaries.{byte_range}
use Rattle.dictionaries.proofs.Searching.{ends_bounds, strings_at_lem}
use Rattle.dictionary_searches.proofs.string.Goals as goal

pub slice_bounds-result-count : goal.slice_bounds-result-count
slice_bounds-result-count c =
    let h = ends_bounds (length c.args.bytes.now) 0 c.args.ends.now c.requires.ends_value c.args.n c.requires.n_in_bounds in
    let w = c.wide-end.ensures in
    let s = c.start_of-start.ensures in
    omega arith

pub slice_bounds-result-start : goal.slice_bounds-result-start
slice_bounds-result-start c =
    let h = ends_bounds (length c.args.bytes.now) 0 c.args.ends.now c.requires.ends_value c.args.n c.requires.n_in_bounds in
    let w = c.wide-end.ensures in
    let s = c.start_of-start.ensures in
    omega arith

pub slice_bounds-result-end : goal.slice_bounds-result-end
slice_bounds-result-end c =
    let h = ends_bounds (length c.args.bytes.now) 0 c.args.ends.now c.requires.ends_value c.args.n c.requires.n_in_bounds in
    let w = c.wide-end.ensures in
    let s = c.start_of-start.ensures in
    omega arith

pub returns : goal.returns
returns c =
    ap₂ (byte_range c.args.bytes.now) c.start_of-start.ensures c.wide-end.ensures
    ∙ sym (strings_at_lem c.args.bytes.now 0 c.args.ends.now c.args.n c.requires.n_in_bounds)
