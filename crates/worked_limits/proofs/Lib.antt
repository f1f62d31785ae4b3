pub mod LimitsHold
pub mod FaultsHold
pub mod ClosingsHold
pub mod SurveysHold
pub mod SizesHold
pub mod StepsHold
pub mod YearsHold
