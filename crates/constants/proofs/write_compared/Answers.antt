-- `write_compared` meets its contract: by what is known of the constant.
use Rattle.constants.proofs.Appending.{of_term, of_no_name, of_no_text, of_below, of_above}
use Rattle.constants.proofs.write_compared.Goals as goal

pub returns-in-Term : goal.returns-in-Term
returns-in-Term c =
    let a = c.args in
    of_term a.out.now a.at a.unnamed a.unwritten a.o a.x a.c c.write_comparison.new.out c.write_comparison.result
    c.in-Term.w c.in-Term.is c.write_comparison.ensures

pub returns-in-NoName : goal.returns-in-NoName
returns-in-NoName c =
    let a = c.args in
    of_no_name a.out.now a.at a.unnamed a.unwritten a.o a.x a.c c.write_comparison-in-NoName.new.out c.write_comparison-in-NoName.result
    c.in-NoName.is c.write_comparison-in-NoName.ensures

pub returns-in-NoText : goal.returns-in-NoText
returns-in-NoText c =
    let a = c.args in
    of_no_text a.out.now a.at a.unnamed a.unwritten a.o a.x a.c c.write_no_text.new.out c.write_no_text.result
    c.in-NoText.ranked c.in-NoText.is c.write_no_text.ensures

pub returns-in-Below : goal.returns-in-Below
returns-in-Below c =
    let a = c.args in
    of_below a.out.now a.at a.unnamed a.unwritten a.o a.x a.c c.write_far.new.out c.write_far.result
    c.in-Below.is c.write_far.ensures

pub returns-in-Above : goal.returns-in-Above
returns-in-Above c =
    let a = c.args in
    of_above a.out.now a.at a.unnamed a.unwritten a.o a.x a.c c.write_far-in-Above.new.out c.write_far-in-Above.result
    c.in-Above.is c.write_far-in-Above.ensures
