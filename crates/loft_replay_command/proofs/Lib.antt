mod Reports
mod Whole
mod Blocks
mod Checked
mod Sources
mod Outcomes
mod Writing
mod BlockLines
