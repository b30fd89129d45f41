pub mod DonationLaws
