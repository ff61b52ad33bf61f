-- How two logs compare.
use Rattle.std.specs.Prelude.{◌≡◌, ◌⊎◌, ℕ, Option, Some, None, IsSomeAnd}
use Rattle.warg_replay.specs.AuditedLog.Comparisons.{IsComparison}
use Rattle.warg_replay.specs.AuditedLog.Log.{StateAndRecords, envelopes, contents}
use Rattle.warg_replay.specs.declared.audited_log.comparison.Comparison as whole
use Rattle.warg_replay.specs.declared.audited_log.comparison.Comparison.TheVariants as is
use Rattle.warg_operator_log.specs.State as operators
use Rattle.warg_operator_log.specs.StateLaws as operator_laws
use Rattle.warg_package_log.specs.State as packages
use Rattle.warg_package_log.specs.StateLaws as package_laws
use Rattle.warg_log_records.specs.Kinds.{Kind}
use Rattle.warg_c.specs.declared.exports.comparing.Comparison.{Comparison}
use Rattle.warg_c.specs.declared.any_log.AnyLog.{AnyLog}
use Rattle.warg_c.specs.declared.any_log.AnyLog.TheVariants.{Package, Operator}
use Rattle.warg_c.specs.Logs.{whole_of}
use Rattle.warg_c.specs.Statuses.{Answers}
use Rattle.warg_c.specs.Texts.{CallErrors}

-- a comparison as numbers
abbrev pub shown_of : whole.Comparison → Comparison
shown_of is.Same = record { is = 0; left = 0; right = 0 }
shown_of (is.LeftIsPrefix place) = record { is = 1; left = place; right = place }
shown_of (is.RightIsPrefix place) = record { is = 2; left = place; right = place }
shown_of (is.Fork place) = record { is = 3; left = place; right = place }
shown_of (is.Collision left right) = record { is = 4; left = left; right = right }

module _ {View Offence S C : Type 0} (k : Kind View Offence) (view : S → View) where
  -- how the records of two logs compare
  abbrev pub ComparisonIs : Option (StateAndRecords S C) → Option (StateAndRecords S C) → Comparison → Type 0
  ComparisonIs (Some l) (Some r) n = (found : whole.Comparison) × IsComparison (k.head (view l.state)) (k.head (view r.state)) (contents (envelopes l.records)) (contents (envelopes r.records)) found × (n ≡ shown_of found)
  ComparisonIs (Some l) None n = ⊥
  ComparisonIs None r n = ⊥

abbrev pub compare_tells : AnyLog → AnyLog → Comparison → Type 0
compare_tells (Package l) (Package r) n = ComparisonIs package_laws.kind packages.view_of (whole_of l) (whole_of r) n
compare_tells (Operator l) (Operator r) n = ComparisonIs operator_laws.kind operators.view_of (whole_of l) (whole_of r) n
compare_tells (Package l) (Operator r) n = ⊥
compare_tells (Operator l) (Package r) n = ⊥

-- the kinds differ, or the records of one are elsewhere
abbrev pub compare_bad : AnyLog → AnyLog → Type 0
compare_bad (Package l) (Package r) = (whole_of l ≡ None) ⊎ (whole_of r ≡ None)
compare_bad (Operator l) (Operator r) = (whole_of l ≡ None) ⊎ (whole_of r ≡ None)
compare_bad (Package l) (Operator r) = Unit {0}
compare_bad (Operator l) (Package r) = Unit {0}

-- both handles hold a log, and this is so of the two
abbrev pub AreBoth : Option AnyLog → Option AnyLog → (AnyLog → AnyLog → Type 0) → Type 0
AreBoth left right P = IsSomeAnd left (λ l. IsSomeAnd right (λ r. P l r))

-- the answer to what two handles hold; the status is 1 where one holds nothing
abbrev pub compare_answers : ℕ → Option AnyLog → Option AnyLog → Comparison → Type 0
compare_answers n None right comparison = n ≡ 1
compare_answers n (Some l) right comparison = Answers n right (λ held. compare_tells l held comparison) (λ held. CallErrors ⊥ ⊥ (compare_bad l held))
