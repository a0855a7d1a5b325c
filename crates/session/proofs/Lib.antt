mod Schedules
