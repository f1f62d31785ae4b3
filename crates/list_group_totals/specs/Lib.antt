pub mod GroupTotals
