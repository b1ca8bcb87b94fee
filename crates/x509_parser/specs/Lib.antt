pub use Rattle.x509_validate as x509_validate
