-- Worked examples of document 01 as theorems: the table P1 to P9, and tables of further cases: of the machine, of the plan file and of the calls.
pub mod P1toP9
pub mod Further
pub mod PlanFiles
pub mod Calls
