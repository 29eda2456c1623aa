pub mod HostMade
