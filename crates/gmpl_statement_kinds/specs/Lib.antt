pub mod StatementKinds
