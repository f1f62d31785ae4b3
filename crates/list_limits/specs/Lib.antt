pub mod PlanOutputs
