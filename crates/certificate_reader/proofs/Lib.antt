pub mod LinesTaken
pub mod FieldsFound
pub mod LinesFound
pub mod CertificateFound
pub mod FieldsAgain
pub mod CertificateAgain
