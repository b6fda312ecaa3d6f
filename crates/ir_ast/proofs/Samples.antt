-- Small functions at which the definitions are tried: what holds of a right line, and what fails at a wrong one.
mod Source
mod Rewritten
