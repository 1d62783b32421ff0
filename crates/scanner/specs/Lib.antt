pub mod Scanner
