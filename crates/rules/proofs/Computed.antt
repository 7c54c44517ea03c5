-- The statements that are proved by computing what a script gives, gathered. They are checked before the theory, so that a wrong rule is refused first at a script
-- whose answer it changes. Assumes nothing.
pub use Rattle.rules.specs.Scripts.{starred-told, numbered-told, listing}
pub use Rattle.rules.specs.Traps.{made_told, traps-told}
pub use Rattle.rules.proofs.Bounds.{worked-agrees}
pub use Rattle.rules.proofs.Exactness.Kept.{starred-keep, made-keep}
pub use Rattle.rules.proofs.Paths.Samples.{sample_kinds, sample_then, sample_else, sample_none}
