-- `put_field` meets its contract: by how the word is shown.
use Rattle.print_terms.proofs.put_field.Goals as goal

pub put_term-requires : goal.put_term-requires
put_term-requires c = rw c.in-Term.is at c.requires

pub put_number-requires : goal.put_number-requires
put_number-requires c =
    rw c.long.ensures.0 (rw c.in-Number.is at c.requires)

pub returns-in-Term : goal.returns-in-Term
returns-in-Term c = rw c.in-Term.is c.put_term.ensures

pub returns-in-Number : goal.returns-in-Number
returns-in-Number c =
    rw c.in-Number.is
    (rw c.long.ensures.0 at c.put_number.ensures)
