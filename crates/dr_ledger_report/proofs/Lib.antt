mod Figures
mod Reporting
