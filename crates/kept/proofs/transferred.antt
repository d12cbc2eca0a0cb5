pub mod NoVisit
