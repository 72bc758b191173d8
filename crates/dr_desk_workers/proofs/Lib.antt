mod Responses
mod Waited
