mod Checked
mod Formulas
mod Rounds
mod Sums
