-- `print_query` lends the calls the parts of the file, and what it runs is started by a served opening; another's number refuses the file.
use borrow.Author.Rules.{rules}
use mathlib.Core.Path.{sym, ◌∙◌, ap}
use Rattle.calls.specs.Words.{WordsResult}
use Rattle.queries.proofs.Starting.{started}
use Rattle.print_rounds.proofs.Asking.{file_refused}
use Rattle.print_files.proofs.FileParts.{file_asks}
use Rattle.print_files.proofs.print_query.Goals as goal

pub run-requires : goal.run-requires
run-requires g c = let o = c.open-opened in
    let a = c.args in record {
      started = started _ _ _ o.result (ap (λ (r : WordsResult). r.answer) o.ensures.state_after) _
          (ap (λ (r : WordsResult). r.buffers) o.ensures.state_after) _
          c.in-Words.is;
      asks = file_asks a.bytes.now a.file.now a.parts c.requires.bytes_value.0 c.requires.bytes_value.1;
    }

pub print_refused-requires : goal.print_refused-requires
print_refused-requires g c =
    let o = c.open-opened in
    let a = c.args in
    let asks = file_asks a.bytes.now a.file.now a.parts c.requires.bytes_value.0 c.requires.bytes_value.1 in
    let e = sym (ap (λ (r : WordsResult). r.answer) o.ensures.state_after) ∙ c.in-Refused.is in
    file_refused a.bytes.now _ _ _ _ _ asks _ _ e (search rules)
