mod Doing
mod Reporting
