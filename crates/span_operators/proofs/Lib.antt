pub mod Agreement
