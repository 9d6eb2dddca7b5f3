-- The subject: Logs (the log over all facets), Reports (the lines of a report that tell the image).
-- For the code's own steps: Order, Picking, Images.
pub mod Images
pub mod Logs
pub mod Order
pub mod Picking
pub mod Reports
