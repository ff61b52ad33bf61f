-- What the error of a text as a package name says.
use Rattle.std.specs.Prelude.{◌≡◌, ℕ, List, Option, Some, None, string_bytes}
use Rattle.warg_registry.specs.KebabNames.{IsPackageText}
use Rattle.warg_registry.specs.declared.package_name.PackageNameError.{PackageNameError}
use Rattle.warg_registry.specs.declared.package_name.PackageNameError.TheVariants.{InvalidPackageName, OutOfMemory}

-- the text is no package name, and the error carries it
abbrev pub Refuses : PackageNameError → List ℕ → Type 0
Refuses (InvalidPackageName name) text = (string_bytes name ≡ text) × (IsPackageText text → ⊥)
Refuses OutOfMemory text = Unit {0}

-- the text that was refused; none where memory was
abbrev pub refused_name : PackageNameError → Option (List ℕ)
refused_name (InvalidPackageName name) = Some (string_bytes name)
refused_name OutOfMemory = None
