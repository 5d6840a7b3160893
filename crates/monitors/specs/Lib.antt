pub mod LinkMonitor
pub mod MeetMonitor
pub mod Made
