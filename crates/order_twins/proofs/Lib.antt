pub mod SweptBounds
