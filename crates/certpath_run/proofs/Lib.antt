pub mod Searched
mod EmptyReports
mod FrameFacts
mod InventoryFacts
mod OneReport
mod PieceFacts
mod Reaching
mod ReportFacts
mod Why
mod Within
