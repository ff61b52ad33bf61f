-- The words of contracts over logs that are kept.
pub use Rattle.warg_replay.specs.AuditedLog.AuditedWords.{IsAudited, IsKept, AreKept, MayCome, IsWhyNot, IsWhyNever, Asks, IsAppendAll, AreAdded}
