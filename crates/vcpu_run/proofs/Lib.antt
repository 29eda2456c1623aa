pub mod ToldCauses
