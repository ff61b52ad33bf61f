-- A listed key, as plain data.
use Rattle.std.specs.Option.{option_map}
use Rattle.warg_permissions.specs.declared.key_maps.keys.KeyEntry.{KeyEntry}
use Rattle.warg_permissions.specs.KeyMaps.Keys.{KeyData}

-- what is borrowed of a key
abbrev pub key_data : {P : Type 0} → KeyEntry P → KeyData P
key_data e = record { id = e.id.now; key = e.key.now; permissions = option_map (λ set. set.now.keys) e.permissions }
