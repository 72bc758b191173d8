mod Printed
mod Visits
