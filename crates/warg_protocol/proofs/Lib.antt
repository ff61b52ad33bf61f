pub mod AskedMembers
