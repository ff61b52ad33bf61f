pub mod Permissions
pub mod PackagePermissions
pub mod OperatorPermissions
pub mod PermissionJson
pub mod PermissionSets
pub mod PermissionSetLaws
pub mod KeyMaps
