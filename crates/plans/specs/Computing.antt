-- One name that opens every definition of this crate, for proofs that compute.
use Rattle.plans.specs.Branches.{read_branch, read_branches, binds}
use Rattle.plans.specs.Conditions.{node_of, read_node, read_condition, nodes, all_bound}
use Rattle.plans.specs.Endings.{rows_form, keys_form, ending_kind_of, form_as, ending_as, ending_right}
use Rattle.plans.specs.Years.{years_in, year_words}
use Rattle.plans.specs.Plans.{read_plan}

unfoldable pub computing : Unit {0}
unfolding read_branch read_branches binds node_of read_node read_condition nodes all_bound rows_form keys_form ending_kind_of form_as ending_as ending_right
    years_in year_words read_plan
computing = tt
