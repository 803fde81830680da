-- What other crates may cite of the words of a command.
pub use Rattle.command_line.proofs.Examples.{plain_settings, plain_words}
