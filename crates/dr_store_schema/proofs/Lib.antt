pub mod WhatIsWritten
pub mod Understood
