pub mod CertificateText
pub mod Cuts
pub mod Fields
pub mod Laws
pub mod Printable
pub mod Reading
